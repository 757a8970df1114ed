use Rattle.bi_labels.proofs.LabelFacts.{lines_labelled}
use Rattle.bi_labels.proofs.laws.lines_are_labelled.Goals as goal

pub returns : goal.returns
returns c = lines_labelled
