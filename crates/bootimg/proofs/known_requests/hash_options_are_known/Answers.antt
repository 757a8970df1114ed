use Rattle.bootimg.proofs.BuildRequestFacts.{hash_options_are_known}
use Rattle.bootimg.proofs.known_requests.hash_options_are_known.Goals as goal

pub returns : goal.returns
returns c = hash_options_are_known
