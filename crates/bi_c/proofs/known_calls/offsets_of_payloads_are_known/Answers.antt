use Rattle.bi_c.proofs.CallFacts.{offsets_of_payloads_are_known}
use Rattle.bi_c.proofs.known_calls.offsets_of_payloads_are_known.Goals as goal

pub returns : goal.returns
returns c = offsets_of_payloads_are_known
