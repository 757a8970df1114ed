use Rattle.bi_fit.proofs.FileFacts.{three_images_are_aligned}
use Rattle.bi_fit.proofs.known_files.three_images_are_aligned.Goals as goal

pub returns : goal.returns
returns c = record { aligned = three_images_are_aligned }
