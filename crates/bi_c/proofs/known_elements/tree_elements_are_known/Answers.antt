use Rattle.bi_c.proofs.ElementFacts.{tree_elements_are_known}
use Rattle.bi_c.proofs.known_elements.tree_elements_are_known.Goals as goal

pub returns : goal.returns
returns c = tree_elements_are_known
