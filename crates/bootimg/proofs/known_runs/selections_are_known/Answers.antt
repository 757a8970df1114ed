use Rattle.bootimg.proofs.RequestFacts.{selections_are_known}
use Rattle.bootimg.proofs.known_runs.selections_are_known.Goals as goal

pub returns : goal.returns
returns c = selections_are_known
