use Rattle.bi_fit.proofs.UpdatedTrees.{updated_is_still_image_tree}
use Rattle.bi_fit.proofs.update_laws.updated_is_image_tree.Goals as goal

pub returns : goal.returns
returns c = updated_is_still_image_tree
