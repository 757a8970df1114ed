use Rattle.bi_show.proofs.ObjectFacts.{object_values_are_known}
use Rattle.bi_show.proofs.known_texts.object_values_are_known.Goals as goal

pub returns : goal.returns
returns c = object_values_are_known
