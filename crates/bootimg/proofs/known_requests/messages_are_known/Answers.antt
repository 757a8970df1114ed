use Rattle.bootimg.proofs.MessageFacts.{messages_are_known}
use Rattle.bootimg.proofs.known_requests.messages_are_known.Goals as goal

pub returns : goal.returns
returns c = messages_are_known
