use Rattle.bi_report.proofs.CheckFacts.{payload_bound_is_known}
use Rattle.bi_report.proofs.known_texts.payload_bound_is_known.Goals as goal

pub returns : goal.returns
returns c = payload_bound_is_known
