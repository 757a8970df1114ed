use Rattle.bootimg.proofs.ImageFacts.{next_images_are_known}
use Rattle.bootimg.proofs.known_runs.next_images_are_known.Goals as goal

pub returns : goal.returns
returns c = next_images_are_known
