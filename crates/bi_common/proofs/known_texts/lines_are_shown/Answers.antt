use Rattle.bi_common.proofs.WordFacts.{lines_are_shown}
use Rattle.bi_common.proofs.known_texts.lines_are_shown.Goals as goal

pub returns : goal.returns
returns c = lines_are_shown
