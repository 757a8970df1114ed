use Rattle.bootimg.proofs.RequestFacts.{plans_are_known}
use Rattle.bootimg.proofs.known_runs.plans_are_known.Goals as goal

pub returns : goal.returns
returns c = plans_are_known
