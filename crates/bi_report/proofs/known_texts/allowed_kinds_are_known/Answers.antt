use Rattle.bi_report.proofs.TextFacts.{allowed_kinds_are_known}
use Rattle.bi_report.proofs.known_texts.allowed_kinds_are_known.Goals as goal

pub returns : goal.returns
returns c = allowed_kinds_are_known
