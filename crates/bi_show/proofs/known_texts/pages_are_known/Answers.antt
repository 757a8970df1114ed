use Rattle.bi_show.proofs.PageFacts.{pages_are_known}
use Rattle.bi_show.proofs.known_texts.pages_are_known.Goals as goal

pub returns : goal.returns
returns c = pages_are_known c.one_meaning.ensures
