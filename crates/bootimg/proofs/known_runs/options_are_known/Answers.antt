use Rattle.bootimg.proofs.OptionFacts.{options_are_known}
use Rattle.bootimg.proofs.known_runs.options_are_known.Goals as goal

pub returns : goal.returns
returns c = options_are_known
