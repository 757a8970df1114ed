use Rattle.bi_c.proofs.TreeCallFacts.{tree_building_is_known}
use Rattle.bi_c.proofs.known_calls.tree_building_is_known.Goals as goal

pub returns : goal.returns
returns c = tree_building_is_known
