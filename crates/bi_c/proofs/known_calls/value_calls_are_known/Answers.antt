use Rattle.bi_c.proofs.ValueCallFacts.{value_calls_are_known}
use Rattle.bi_c.proofs.known_calls.value_calls_are_known.Goals as goal

pub returns : goal.returns
returns c = value_calls_are_known c.one_meaning.ensures
