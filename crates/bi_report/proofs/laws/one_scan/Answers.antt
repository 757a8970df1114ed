use Rattle.bi_report.proofs.ScanLaws.{one_scan}
use Rattle.bi_report.proofs.laws.one_scan.Goals as goal

pub returns : goal.returns
returns c = one_scan c.one_meaning.ensures
