use Rattle.bi_labels.proofs.LabelFacts.{values_labelled}
use Rattle.bi_labels.proofs.laws.values_are_labelled.Goals as goal

pub returns : goal.returns
returns c = values_labelled
