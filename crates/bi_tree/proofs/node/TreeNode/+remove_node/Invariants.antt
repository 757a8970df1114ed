use Rattle.std.proofs.Common.{length}
use Rattle.bi_tree.proofs.node.TreeNode.+remove_node.Given as goal

abbrev pub decreases-remove_node : goal.decreases-remove_node
decreases-remove_node l = length l.path.now
