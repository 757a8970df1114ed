use Rattle.bi_c.proofs.CallFacts.{call_answers_are_known}
use Rattle.bi_c.proofs.known_calls.call_answers_are_known.Goals as goal

pub returns : goal.returns
returns c = call_answers_are_known
