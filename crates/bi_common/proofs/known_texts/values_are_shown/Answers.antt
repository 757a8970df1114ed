use Rattle.bi_common.proofs.WordFacts.{values_are_shown}
use Rattle.bi_common.proofs.known_texts.values_are_shown.Goals as goal

pub returns : goal.returns
returns c = values_are_shown
