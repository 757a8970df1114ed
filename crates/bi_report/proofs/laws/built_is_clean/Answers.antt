use Rattle.bi_report.proofs.CleanLaws.BuiltIsClean.{built_is_clean}
use Rattle.bi_report.proofs.laws.built_is_clean.Goals as goal

pub returns : goal.returns
returns c = built_is_clean
