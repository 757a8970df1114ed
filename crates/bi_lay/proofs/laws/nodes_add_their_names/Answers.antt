use Rattle.bi_lay.proofs.TreeStages.{nodes_add_their_names}
use Rattle.bi_lay.proofs.laws.nodes_add_their_names.Goals as goal

pub returns : goal.returns
returns c = nodes_add_their_names
