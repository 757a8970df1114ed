use Rattle.bi_show.proofs.PageFacts.{tables_are_known}
use Rattle.bi_show.proofs.known_texts.tables_are_known.Goals as goal

pub returns : goal.returns
returns c = tables_are_known
