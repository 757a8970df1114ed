use Rattle.bi_legacy.proofs.TextMeans.{text_means_same}
use Rattle.bi_legacy.proofs.laws.text_means_image.Goals as goal

pub returns : goal.returns
returns c = text_means_same
