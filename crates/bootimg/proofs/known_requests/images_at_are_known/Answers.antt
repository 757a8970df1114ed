use Rattle.bootimg.proofs.InputFacts.{images_at_are_known}
use Rattle.bootimg.proofs.known_requests.images_at_are_known.Goals as goal

pub returns : goal.returns
returns c = images_at_are_known
