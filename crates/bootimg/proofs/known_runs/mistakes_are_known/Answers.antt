use Rattle.bootimg.proofs.OptionFacts.{mistakes_are_known}
use Rattle.bootimg.proofs.known_runs.mistakes_are_known.Goals as goal

pub returns : goal.returns
returns c = mistakes_are_known
