use Rattle.bi_legacy.proofs.ImageOfFile.{image_of_file}
use Rattle.bi_legacy.proofs.TextMeans.{legacy_text_means}
use Rattle.bi_legacy.specs.Text.{legacy_text}
use Rattle.bi_legacy.proofs.laws.images_of_files.Goals as goal

pub returns : goal.returns
returns c = λ image. (λ is. (legacy_text image, legacy_text_means image is), λ some. image_of_file some.0 image some.1)
