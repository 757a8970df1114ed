use Rattle.std.proofs.Common.{length}
use Rattle.bi_tree.proofs.node.TreeNode.+set_property.Given as goal

abbrev pub decreases-set_property : goal.decreases-set_property
decreases-set_property l = length l.path.now
