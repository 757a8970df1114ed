use Rattle.bi_c.proofs.ElementFacts.{place_numbers_are_known}
use Rattle.bi_c.proofs.known_elements.place_numbers_are_known.Goals as goal

pub returns : goal.returns
returns c = place_numbers_are_known
