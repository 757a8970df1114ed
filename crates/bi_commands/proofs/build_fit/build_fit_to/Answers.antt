use Rattle.std.proofs.Common.{List, subst, ◌∙◌}
use Rattle.std.proofs.lemmas.Result.{err_from_is_err_and}
use Rattle.bi_base.specs.Pipes.{IsPiped}
use Rattle.bi_norm.specs.FitBuilding.{plain_plan, PlanSpecModel}
use Rattle.bi_commands.specs.BuildCommands.{build_fit_promise, IsFitOutput, IsFitOutputError}
use Rattle.bi_commands.specs.Parts.{parts_of_lengths}
use Rattle.bi_commands.specs.declared.parts.Part.{Part}
use Rattle.bi_commands.proofs.MemoryBeforeRun.{not_begun}
use Rattle.bi_commands.proofs.build_fit.build_fit_to.Goals as goal

pub returns-in_err-payloads : goal.returns-in_err-payloads
returns-in_err-payloads g c =
    let p = err_from_is_err_and c.from_residual.result c.from_residual.ensures.1 in
    let payloads = parts_of_lengths c.args.lengths.now in
    rw (p.1, p.2)
    (not_begun (IsFitOutput c.args.limits c.args.form c.args.head plain_plan c.args.images.now payloads)
    (IsFitOutputError c.args.limits c.args.form c.args.head plain_plan c.args.images.now payloads) c.args.limits
    (g.R.Read.remaining c.args.reader.now) (g.W.Write.contents c.args.writer.now))

pub returns : goal.returns
returns g c =
    subst
    (λ (payloads : List Part). IsPiped (build_fit_promise c.args.form c.args.head plain_plan c.args.images.now payloads c.args.limits)
    c.args.limits (g.R.Read.remaining c.args.reader.now) (g.R.Read.remaining c.pipe_to.new.reader) (g.W.Write.contents c.args.writer.now)
    (g.W.Write.contents c.pipe_to.new.writer) c.pipe_to.result)
    (c.deref.ensures.value ∙ c.in_ok-payloads.ensures)
    (subst
    (λ (plan : PlanSpecModel). IsPiped (build_fit_promise c.args.form c.args.head plan c.args.images.now c.deref.result.now c.args.limits)
    c.args.limits (g.R.Read.remaining c.args.reader.now) (g.R.Read.remaining c.pipe_to.new.reader) (g.W.Write.contents c.args.writer.now)
    (g.W.Write.contents c.pipe_to.new.writer) c.pipe_to.result)
    c.new.ensures c.pipe_to.ensures)
