use Rattle.bi_report.proofs.CheckFacts.{built_check_is_known}
use Rattle.bi_report.proofs.known_texts.built_check_is_known.Goals as goal

pub returns : goal.returns
returns c = built_check_is_known
