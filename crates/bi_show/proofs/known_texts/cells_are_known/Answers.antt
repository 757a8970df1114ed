use Rattle.bi_show.proofs.PageFacts.{cells_are_known}
use Rattle.bi_show.proofs.known_texts.cells_are_known.Goals as goal

pub returns : goal.returns
returns c = cells_are_known
