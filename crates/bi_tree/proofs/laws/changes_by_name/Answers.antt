use Rattle.bi_tree.proofs.ChangesByName.{changes_by_name}
use Rattle.bi_tree.proofs.laws.changes_by_name.Goals as goal

pub returns : goal.returns
returns c = changes_by_name
