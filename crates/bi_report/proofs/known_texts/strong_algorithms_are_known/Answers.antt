use Rattle.bi_report.proofs.TextFacts.{strong_algorithms_are_known}
use Rattle.bi_report.proofs.known_texts.strong_algorithms_are_known.Goals as goal

pub returns : goal.returns
returns c = strong_algorithms_are_known
