use Rattle.bi_c.proofs.ElementFacts.{legacy_elements_are_known}
use Rattle.bi_c.proofs.known_elements.legacy_elements_are_known.Goals as goal

pub returns : goal.returns
returns c = legacy_elements_are_known c.one_meaning.ensures
