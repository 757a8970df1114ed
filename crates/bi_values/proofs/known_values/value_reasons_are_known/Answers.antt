use Rattle.bi_values.proofs.ValueFacts.{value_reasons_are_known}
use Rattle.bi_values.proofs.known_values.value_reasons_are_known.Goals as goal

pub returns : goal.returns
returns c = value_reasons_are_known
