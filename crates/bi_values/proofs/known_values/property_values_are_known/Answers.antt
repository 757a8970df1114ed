use Rattle.bi_values.proofs.ValueFacts.{property_values_are_known}
use Rattle.bi_values.proofs.known_values.property_values_are_known.Goals as goal

pub returns : goal.returns
returns c = property_values_are_known c.one_meaning.ensures
