use Rattle.bi_fit.proofs.TextLaws.{aligned_by_four_is_external}
use Rattle.bi_fit.proofs.laws.aligned_by_four_is_external.Goals as goal

pub returns : goal.returns
returns c = aligned_by_four_is_external
