use Rattle.bootimg.proofs.ArgumentFacts.{limits_are_known}
use Rattle.bootimg.proofs.known_runs.limits_are_known.Goals as goal

pub returns : goal.returns
returns c = limits_are_known
