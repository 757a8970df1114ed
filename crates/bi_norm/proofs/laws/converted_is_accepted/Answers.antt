use Rattle.bi_norm.proofs.ConvertedImages.{converted_is_accepted}
use Rattle.bi_norm.proofs.laws.converted_is_accepted.Goals as goal

pub returns : goal.returns
returns c = converted_is_accepted
