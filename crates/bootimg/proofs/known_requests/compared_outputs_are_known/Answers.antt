use Rattle.bootimg.proofs.InputFacts.{compared_outputs_are_known}
use Rattle.bootimg.proofs.known_requests.compared_outputs_are_known.Goals as goal

pub returns : goal.returns
returns c = compared_outputs_are_known c.one_meaning.ensures
