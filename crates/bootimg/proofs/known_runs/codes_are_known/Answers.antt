use Rattle.bootimg.proofs.ArgumentFacts.{codes_are_known}
use Rattle.bootimg.proofs.known_runs.codes_are_known.Goals as goal

pub returns : goal.returns
returns c = codes_are_known
