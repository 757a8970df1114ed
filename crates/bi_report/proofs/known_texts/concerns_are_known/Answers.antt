use Rattle.bi_report.proofs.TextFacts.{concerns_are_known}
use Rattle.bi_report.proofs.known_texts.concerns_are_known.Goals as goal

pub returns : goal.returns
returns c = concerns_are_known
