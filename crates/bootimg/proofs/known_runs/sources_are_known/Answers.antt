use Rattle.bootimg.proofs.RequestFacts.{sources_are_known}
use Rattle.bootimg.proofs.known_runs.sources_are_known.Goals as goal

pub returns : goal.returns
returns c = sources_are_known
