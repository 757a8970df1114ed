use Rattle.bootimg.proofs.OrderFacts.{requests_are_known}
use Rattle.bootimg.proofs.known_requests.requests_are_known.Goals as goal

pub returns : goal.returns
returns c = requests_are_known
