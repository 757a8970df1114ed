use Rattle.bi_commands.proofs.BoundFacts.{update_bounds_are_known}
use Rattle.bi_commands.proofs.known_refusals.update_bounds_are_known.Goals as goal

pub returns : goal.returns
returns c = update_bounds_are_known
