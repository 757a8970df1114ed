use Rattle.bootimg.proofs.WorkFacts.{outputs_in_files_are_known}
use Rattle.bootimg.proofs.known_works.outputs_in_files_are_known.Goals as goal

pub returns : goal.returns
returns c = outputs_in_files_are_known
