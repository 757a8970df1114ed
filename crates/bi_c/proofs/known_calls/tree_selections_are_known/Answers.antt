use Rattle.bi_c.proofs.TreeCallFacts.{tree_selections_are_known}
use Rattle.bi_c.proofs.known_calls.tree_selections_are_known.Goals as goal

pub returns : goal.returns
returns c = tree_selections_are_known c.one_meaning.ensures
