use Rattle.bootimg.proofs.BuildRequestFacts.{node_texts_are_known}
use Rattle.bootimg.proofs.known_requests.node_texts_are_known.Goals as goal

pub returns : goal.returns
returns c = node_texts_are_known
