use Rattle.bi_common.proofs.WordFacts.{names_are_shown}
use Rattle.bi_common.proofs.known_texts.names_are_shown.Goals as goal

pub returns : goal.returns
returns c = names_are_shown
