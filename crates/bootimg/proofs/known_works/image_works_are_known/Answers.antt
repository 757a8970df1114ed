use Rattle.bootimg.proofs.WorkFacts.{image_works_are_known}
use Rattle.bootimg.proofs.known_works.image_works_are_known.Goals as goal

pub returns : goal.returns
returns c = image_works_are_known
