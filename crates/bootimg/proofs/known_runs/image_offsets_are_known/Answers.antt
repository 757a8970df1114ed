use Rattle.bootimg.proofs.RequestFacts.{image_offsets_are_known}
use Rattle.bootimg.proofs.known_runs.image_offsets_are_known.Goals as goal

pub returns : goal.returns
returns c = image_offsets_are_known
