use Rattle.bi_legacy.proofs.UpdatedImages.{updated_has_normal_form}
use Rattle.bi_legacy.proofs.laws.updated_has_normal_form.Goals as goal

pub returns : goal.returns
returns c = updated_has_normal_form
