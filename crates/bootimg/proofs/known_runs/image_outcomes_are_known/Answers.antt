use Rattle.bootimg.proofs.ImageFacts.{image_outcomes_are_known}
use Rattle.bootimg.proofs.known_runs.image_outcomes_are_known.Goals as goal

pub returns : goal.returns
returns c = image_outcomes_are_known
