use Rattle.bi_fit.proofs.TextLaws.{same_text_same_tree}
use Rattle.bi_fit.proofs.laws.same_text_same_tree.Goals as goal

pub returns : goal.returns
returns c = same_text_same_tree
