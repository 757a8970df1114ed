use Rattle.std.proofs.Common.{ap}
use Rattle.bi_legacy.proofs.ImageOfFile.{image_of_file}
use Rattle.bi_legacy.proofs.TextMeans.{legacy_texts_differ}
use Rattle.bi_legacy.specs.Text.{legacy_text}
use Rattle.bi_legacy.proofs.laws.texts_differ.Goals as goal

pub returns : goal.returns
returns c = λ f g a b is_a is_b. (
  λ same. legacy_texts_differ a b (image_of_file f a is_a) (image_of_file g b is_b) same,
  λ same. ap legacy_text same,
)
