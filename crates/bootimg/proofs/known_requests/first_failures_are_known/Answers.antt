use Rattle.bootimg.proofs.FirstFailureFacts.{first_failures_are_known}
use Rattle.bootimg.proofs.known_requests.first_failures_are_known.Goals as goal

pub returns : goal.returns
returns c = first_failures_are_known
