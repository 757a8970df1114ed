use Rattle.bi_values.proofs.ValueFacts.{field_values_are_known}
use Rattle.bi_values.proofs.known_values.field_values_are_known.Goals as goal

pub returns : goal.returns
returns c = field_values_are_known c.one_meaning.ensures
