use Rattle.bi_c.proofs.CallFacts.{argument_bounds_are_known}
use Rattle.bi_c.proofs.known_calls.argument_bounds_are_known.Goals as goal

pub returns : goal.returns
returns c = argument_bounds_are_known
