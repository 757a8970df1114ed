use Rattle.bootimg.proofs.ArgumentFacts.{numbers_are_known}
use Rattle.bootimg.proofs.known_runs.numbers_are_known.Goals as goal

pub returns : goal.returns
returns c = numbers_are_known
