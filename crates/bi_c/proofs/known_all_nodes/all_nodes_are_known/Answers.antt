use Rattle.bi_c.proofs.TreeElementFacts.{all_nodes_are_known}
use Rattle.bi_c.proofs.known_all_nodes.all_nodes_are_known.Goals as goal

pub returns : goal.returns
returns c = all_nodes_are_known
