use Rattle.bi_report.proofs.CleanLaws.CheckTellsClean.{check_tells_clean}
use Rattle.bi_report.proofs.laws.check_tells_clean.Goals as goal

pub returns : goal.returns
returns c = check_tells_clean
