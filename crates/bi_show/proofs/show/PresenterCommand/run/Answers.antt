use Rattle.std.proofs.Common.{refl, subst, sym}
use Rattle.std.proofs.lemmas.Result.{err_from_is_err_and}
use Rattle.bi_base.specs.Commands.{SinkFailed}
use Rattle.bi_show.specs.ShownFiles.{IsPage}
use Rattle.bi_show.proofs.show.PresenterCommand.run.Goals as goal

pub returns-in_err-put-clause-failed : goal.returns-in_err-put-clause-failed
returns-in_err-put-clause-failed g c =
    let residual = c.from_residual-in_err-put in
    let p = err_from_is_err_and residual.result residual.ensures.1 in
    rw (p.1, p.2)
    (SinkFailed c.as_bytes.result.now c.in_err-put.field-0.0
    (subst (IsPage c.args.self.now.layout c.args.limits c.args.input.now) (sym c.as_bytes.ensures.value) c.in_ok-page.ensures.shown)
    c.in_err-put.ensures refl)
