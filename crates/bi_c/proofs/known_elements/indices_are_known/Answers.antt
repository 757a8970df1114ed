use Rattle.bi_c.proofs.ElementFacts.{indices_are_known}
use Rattle.bi_c.proofs.known_elements.indices_are_known.Goals as goal

pub returns : goal.returns
returns c = indices_are_known
