use Rattle.bi_values.proofs.OneAnswer.{values_are_of_meaning}
use Rattle.bi_values.proofs.laws.values_are_of_meaning.Goals as goal

pub returns : goal.returns
returns c = values_are_of_meaning
