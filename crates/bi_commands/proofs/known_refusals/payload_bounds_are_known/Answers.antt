use Rattle.bi_commands.proofs.BoundFacts.{payload_bounds_are_known}
use Rattle.bi_commands.proofs.known_refusals.payload_bounds_are_known.Goals as goal

pub returns : goal.returns
returns c = payload_bounds_are_known
