use Rattle.bootimg.proofs.InputFacts.{compared_inputs_are_known}
use Rattle.bootimg.proofs.known_requests.compared_inputs_are_known.Goals as goal

pub returns : goal.returns
returns c ignored = compared_inputs_are_known ignored
