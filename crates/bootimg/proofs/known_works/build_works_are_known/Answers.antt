use Rattle.bootimg.proofs.BuildWorkFacts.{build_works_are_known}
use Rattle.bootimg.proofs.known_works.build_works_are_known.Goals as goal

pub returns : goal.returns
returns c = build_works_are_known
