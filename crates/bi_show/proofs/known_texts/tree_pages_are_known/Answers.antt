use Rattle.bi_show.proofs.TreePageFacts.{tree_pages_are_known}
use Rattle.bi_show.proofs.known_texts.tree_pages_are_known.Goals as goal

pub returns : goal.returns
returns c = tree_pages_are_known c.one_meaning.ensures
