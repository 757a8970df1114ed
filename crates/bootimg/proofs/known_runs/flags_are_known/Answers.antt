use Rattle.bootimg.proofs.RequestFacts.{flags_are_known}
use Rattle.bootimg.proofs.known_runs.flags_are_known.Goals as goal

pub returns : goal.returns
returns c = flags_are_known
