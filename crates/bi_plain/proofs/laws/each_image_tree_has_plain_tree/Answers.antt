use Rattle.bi_plain.proofs.PlainTrees.{each_image_tree_has_plain_tree}
use Rattle.bi_plain.proofs.laws.each_image_tree_has_plain_tree.Goals as goal

pub returns : goal.returns
returns c = each_image_tree_has_plain_tree
