use Rattle.bootimg.proofs.InputFacts.{explanations_are_known}
use Rattle.bootimg.proofs.known_requests.explanations_are_known.Goals as goal

pub returns : goal.returns
returns c = explanations_are_known
