use Rattle.bi_report.proofs.CleanLaws.BuiltTextIsClean.{built_text_is_clean}
use Rattle.bi_report.proofs.laws.built_text_is_clean.Goals as goal

pub returns : goal.returns
returns c = built_text_is_clean
