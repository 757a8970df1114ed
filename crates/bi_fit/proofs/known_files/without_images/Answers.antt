use Rattle.bi_fit.proofs.FaultFacts.{without_images}
use Rattle.bi_fit.proofs.known_files.without_images.Goals as goal

pub returns : goal.returns
returns c = record { images = without_images }
