use Rattle.bi_c.proofs.LegacyCallFacts.{header_calls_are_known}
use Rattle.bi_c.proofs.known_calls.header_calls_are_known.Goals as goal

pub returns : goal.returns
returns c = header_calls_are_known
