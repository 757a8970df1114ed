use Rattle.std.proofs.Common.{length}
use Rattle.bi_tree.proofs.node.TreeNode.+remove_property.Given as goal

abbrev pub decreases-remove_property : goal.decreases-remove_property
decreases-remove_property l = length l.path.now
