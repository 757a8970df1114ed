use Rattle.bi_c.proofs.TreeCallFacts.{tree_reasons_are_known}
use Rattle.bi_c.proofs.known_calls.tree_reasons_are_known.Goals as goal

pub returns : goal.returns
returns c = tree_reasons_are_known
