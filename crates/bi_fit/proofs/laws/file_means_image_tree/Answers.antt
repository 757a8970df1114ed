use Rattle.bi_fit.proofs.TextLaws.{file_means_image_tree}
use Rattle.bi_fit.proofs.laws.file_means_image_tree.Goals as goal

pub returns : goal.returns
returns c = file_means_image_tree
