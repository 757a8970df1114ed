use Rattle.bi_blob.proofs.Texts.Structure.{says_tree}
use Rattle.bi_blob.proofs.text_laws.text_encodes_its_tree.Goals as goal

pub returns : goal.returns
returns c = says_tree
