use Rattle.bi_plain.proofs.PlainTrees.{plain_trees_return}
use Rattle.bi_plain.proofs.laws.plain_trees_return.Goals as goal

pub returns : goal.returns
returns c = plain_trees_return
