use Rattle.bi_legacy.proofs.UpdatedImages.{updated_has_new_time}
use Rattle.bi_legacy.proofs.laws.updated_has_new_time.Goals as goal

pub returns : goal.returns
returns c = updated_has_new_time
