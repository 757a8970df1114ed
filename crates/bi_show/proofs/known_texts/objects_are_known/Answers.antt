use Rattle.bi_show.proofs.ObjectFacts.{objects_are_known}
use Rattle.bi_show.proofs.known_texts.objects_are_known.Goals as goal

pub returns : goal.returns
returns c = objects_are_known c.one_meaning.ensures
