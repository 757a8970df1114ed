use Rattle.bi_c.proofs.CallFacts.{call_numbers_are_known}
use Rattle.bi_c.proofs.known_calls.call_numbers_are_known.Goals as goal

pub returns : goal.returns
returns c = call_numbers_are_known c.one_meaning.ensures
