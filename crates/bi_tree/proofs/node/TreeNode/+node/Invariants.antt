use Rattle.std.proofs.Common.{length}
use Rattle.bi_tree.proofs.node.TreeNode.+node.Given as goal

abbrev pub decreases-node : goal.decreases-node
decreases-node l = length l.path.now
