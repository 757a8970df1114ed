use Rattle.bi_fit.proofs.FileFacts.{three_images_have_texts}
use Rattle.bi_fit.proofs.known_files.three_images_have_texts.Goals as goal

pub returns : goal.returns
returns c = record { three = three_images_have_texts }
