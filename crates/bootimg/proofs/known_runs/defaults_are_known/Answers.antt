use Rattle.bootimg.proofs.OptionFacts.{defaults_are_known}
use Rattle.bootimg.proofs.known_runs.defaults_are_known.Goals as goal

pub returns : goal.returns
returns c = defaults_are_known
