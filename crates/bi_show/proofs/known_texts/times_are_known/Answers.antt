use Rattle.bi_show.proofs.PageFacts.{times_are_known}
use Rattle.bi_show.proofs.known_texts.times_are_known.Goals as goal

pub returns : goal.returns
returns c = times_are_known
