use Rattle.bi_report.proofs.CleanLaws.EmptyIsClean.{empty_is_clean}
use Rattle.bi_report.proofs.laws.empty_is_clean.Goals as goal

pub returns : goal.returns
returns c = empty_is_clean
