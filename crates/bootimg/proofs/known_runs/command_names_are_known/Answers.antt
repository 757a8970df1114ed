use Rattle.bootimg.proofs.RequestFacts.{command_names_are_known}
use Rattle.bootimg.proofs.known_runs.command_names_are_known.Goals as goal

pub returns : goal.returns
returns c = command_names_are_known
