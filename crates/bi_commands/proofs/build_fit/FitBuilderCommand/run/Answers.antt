use Rattle.std.proofs.Common.{refl, subst, ap, sym}
use Rattle.std.proofs.lemmas.Result.{err_from_is_err_and}
use Rattle.bi_base.specs.Slices.{bytes_of}
use Rattle.bi_base.specs.Commands.{WasRefused}
use Rattle.bi_norm.specs.FitBuilding.{plan_spec_model}
use Rattle.bi_commands.specs.BuildCommands.{HavePayloads}
use Rattle.bi_commands.specs.Parts.{lengths_of, pieces_among}
use Rattle.bi_commands.proofs.FitOutputs.{HasPayloads, cut_error, sum_of_cut, not_appended}
use Rattle.bi_commands.proofs.build_fit.FitBuilderCommand.run.Goals as goal

pub returns-in_err-contents-clause-failed : goal.returns-in_err-contents-clause-failed
returns-in_err-contents-clause-failed g c =
    let p = err_from_is_err_and c.from_residual.result c.from_residual.ensures.1 in
    rw (p.1, p.2) (WasRefused (cut_error c.args.limits c.args.self.now.form c.args.self.now.head (plan_spec_model c.args.self.now.plan)
    c.args.self.now.images.now
    c.args.self.now.payloads.now c.args.input.now c.in_err-contents.field-0.0 c.requires.short c.in_err-contents.ensures.failed) refl)

pub returns-in_err-complete-clause-failed : goal.returns-in_err-complete-clause-failed
returns-in_err-complete-clause-failed g c =
    let p = err_from_is_err_and c.from_residual-in_err-complete.result c.from_residual-in_err-complete.ensures.1 in
    rw (p.1, p.2)
    (WasRefused (sum_of_cut c.args.input.now (lengths_of c.args.self.now.payloads.now)
    (pieces_among c.args.self.now.payloads.now (bytes_of c.in_ok-contents.contents.items)) c.in_ok-contents.ensures.filled.cut) refl)

pub returns-in_err-build_fit_as_into-clause-failed : goal.returns-in_err-build_fit_as_into-clause-failed
returns-in_err-build_fit_as_into-clause-failed g c =
    let contents = bytes_of c.in_ok-contents.contents.items in
    let images = c.deref-2.result.now in
    let given = c.args.self.now.images.now in
    let have : HavePayloads given contents images =
    subst (HavePayloads given contents) (sym c.deref-2.ensures.value)
    (subst (λ bytes. HavePayloads given bytes c.in_ok-complete.complete.items)
    (ap bytes_of c.deref.ensures.value) c.in_ok-complete.ensures) in
    let completed : HasPayloads c.args.limits given c.args.self.now.payloads.now c.args.input.now contents images = record
    { short = c.requires.short; filled = c.in_ok-contents.ensures.filled; have = have } in
    let p = err_from_is_err_and c.from_residual-in_err-build_fit_as_into.result c.from_residual-in_err-build_fit_as_into.ensures.1 in
    rw (p.1, p.2)
    (not_appended g.S.Sink.fails c.args.limits c.args.self.now.form c.args.self.now.head (plan_spec_model c.args.self.now.plan) given
    c.args.self.now.payloads.now c.args.input.now contents images c.args.sink.now c.build_fit_as_into.new.sink
    c.in_err-build_fit_as_into.field-0.0 completed
    c.in_err-build_fit_as_into.ensures.failed)
