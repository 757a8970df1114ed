use Rattle.bi_fit.proofs.UpdatedTrees.{no_change_keeps_tree}
use Rattle.bi_fit.proofs.update_laws.no_change_keeps_tree.Goals as goal

pub returns : goal.returns
returns c = no_change_keeps_tree
