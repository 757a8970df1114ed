use Rattle.bi_c.proofs.CallFacts.{concern_elements_are_known}
use Rattle.bi_c.proofs.known_calls.concern_elements_are_known.Goals as goal

pub returns : goal.returns
returns c = concern_elements_are_known
