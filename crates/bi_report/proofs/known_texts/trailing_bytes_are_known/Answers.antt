use Rattle.bi_report.proofs.TextFacts.{trailing_bytes_are_known}
use Rattle.bi_report.proofs.known_texts.trailing_bytes_are_known.Goals as goal

pub returns : goal.returns
returns c = trailing_bytes_are_known
