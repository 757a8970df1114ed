use Rattle.bootimg.proofs.WorkFacts.{parts_of_files_are_known}
use Rattle.bootimg.proofs.known_works.parts_of_files_are_known.Goals as goal

pub returns : goal.returns
returns c = parts_of_files_are_known
