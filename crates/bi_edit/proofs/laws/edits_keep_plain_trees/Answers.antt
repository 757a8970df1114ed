use Rattle.bi_edit.proofs.EditedTrees.{edits_keep_plain_trees}
use Rattle.bi_edit.proofs.laws.edits_keep_plain_trees.Goals as goal

pub returns : goal.returns
returns c = edits_keep_plain_trees
