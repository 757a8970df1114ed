use Rattle.bootimg.proofs.BuildRequestFacts.{configurations_are_known}
use Rattle.bootimg.proofs.known_requests.configurations_are_known.Goals as goal

pub returns : goal.returns
returns c = configurations_are_known
