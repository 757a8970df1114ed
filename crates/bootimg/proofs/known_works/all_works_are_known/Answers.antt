use Rattle.bootimg.proofs.WorkFacts.{all_works_are_known}
use Rattle.bootimg.proofs.known_works.all_works_are_known.Goals as goal

pub returns : goal.returns
returns c = all_works_are_known
