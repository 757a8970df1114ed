use Rattle.bi_tree.specs.NodeCodes.{nodes_made_again}
use Rattle.bi_tree.proofs.known_changes.nodes_are_made_again.Goals as goal

pub returns : goal.returns
returns c = record { law = nodes_made_again }
