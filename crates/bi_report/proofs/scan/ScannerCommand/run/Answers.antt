use Rattle.std.proofs.Common.{refl, subst, sym}
use Rattle.std.proofs.lemmas.Result.{err_from_is_err_and}
use Rattle.bi_base.specs.Commands.{SinkFailed}
use Rattle.bi_report.specs.Scanning.{IsScanText}
use Rattle.bi_report.proofs.scan.ScannerCommand.run.Goals as goal

pub returns-in_err-put-clause-failed : goal.returns-in_err-put-clause-failed
returns-in_err-put-clause-failed g c =
    let p = err_from_is_err_and c.from_residual-in_err-put.result c.from_residual-in_err-put.ensures.1 in
    rw (p.1, p.2)
    (SinkFailed _ c.in_err-put.field-0.0
    (subst (IsScanText c.args.self.now.format c.args.limits c.args.input.now) (sym c.deref.ensures.value)
    c.in_ok-scan.ensures.scanned.is_scan) c.in_err-put.ensures refl)
