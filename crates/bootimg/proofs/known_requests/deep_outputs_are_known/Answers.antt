use Rattle.bootimg.proofs.InputFacts.{deep_outputs_are_known}
use Rattle.bootimg.proofs.known_requests.deep_outputs_are_known.Goals as goal

pub returns : goal.returns
returns c = deep_outputs_are_known c.one_meaning.ensures
