use Rattle.bi_report.proofs.ScanClaims.{scan_has_no_fault}
use Rattle.bi_report.proofs.laws.scan_has_no_fault.Goals as goal

pub returns : goal.returns
returns c = scan_has_no_fault
