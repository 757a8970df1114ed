use Rattle.bi_report.proofs.CheckFacts.{check_errors_are_known}
use Rattle.bi_report.proofs.known_texts.check_errors_are_known.Goals as goal

pub returns : goal.returns
returns c = check_errors_are_known
