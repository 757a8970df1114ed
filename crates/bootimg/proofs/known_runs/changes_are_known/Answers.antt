use Rattle.bootimg.proofs.RequestFacts.{changes_are_known}
use Rattle.bootimg.proofs.known_runs.changes_are_known.Goals as goal

pub returns : goal.returns
returns c = changes_are_known
