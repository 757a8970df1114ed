use Rattle.bootimg.proofs.OrderFacts.{rejections_are_known}
use Rattle.bootimg.proofs.known_requests.rejections_are_known.Goals as goal

pub returns : goal.returns
returns c = rejections_are_known
