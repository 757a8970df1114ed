use Rattle.bootimg.proofs.RequestFacts.{all_requests_are_known}
use Rattle.bootimg.proofs.known_runs.all_requests_are_known.Goals as goal

pub returns : goal.returns
returns c = all_requests_are_known
