use Rattle.bi_blob.proofs.Texts.NormalOrder.{has_one_order}
use Rattle.bi_blob.proofs.text_laws.each_tree_has_one_order.Goals as goal

pub returns : goal.returns
returns c = has_one_order
