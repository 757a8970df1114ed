use Rattle.std.proofs.Common.{ap}
use Rattle.bi_legacy.proofs.OneMeaning.{one_legacy_meaning}
use Rattle.bi_legacy.proofs.TextMeans.{legacy_text_means}
use Rattle.bi_legacy.specs.Text.{legacy_text}
use Rattle.bi_legacy.proofs.laws.text_is_its_own_normal_form.Goals as goal

pub returns : goal.returns
returns c = λ image other is means. ap legacy_text (one_legacy_meaning (legacy_text image) other image means (legacy_text_means image is))
