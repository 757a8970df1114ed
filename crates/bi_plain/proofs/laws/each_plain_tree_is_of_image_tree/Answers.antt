use Rattle.bi_plain.proofs.PlainTrees.{each_plain_tree_is_of_image_tree}
use Rattle.bi_plain.proofs.laws.each_plain_tree_is_of_image_tree.Goals as goal

pub returns : goal.returns
returns c = each_plain_tree_is_of_image_tree
