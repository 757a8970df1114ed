use Rattle.std.proofs.Common.{subst}
use Rattle.bootimg.specs.Runs.{EndsWell, EndsWithFailure, Reports}
use Rattle.bootimg.proofs.requests.conclude.Goals as goal

pub returns-in-Ok : goal.returns-in-Ok
returns-in-Ok g c = EndsWell c.in-Ok.done c.in-Ok.is c.put_notes.ensures c.status.ensures

pub returns-in-Err : goal.returns-in-Err
returns-in-Err g c =
    let trace = g.E.TracedWrite.trace in
    EndsWithFailure c.in-Err.failed c.in-Err.is
    (subst (λ hint. Reports c.in-Err.failed.source c.in-Err.failed.failure hint (trace c.args.errors.now)
    (trace c.report_failure.new.errors)) c.hint_if-hint.ensures c.report_failure.ensures.line)
    c.report_failure.ensures.status
