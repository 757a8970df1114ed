use Rattle.bi_edit.proofs.EditedTrees.{edits_keep_image_trees}
use Rattle.bi_edit.proofs.laws.edits_keep_image_trees.Goals as goal

pub returns : goal.returns
returns c = edits_keep_image_trees
