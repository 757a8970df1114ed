use Rattle.bi_norm.proofs.KindLaws.{meaning_aligned_by_four}
use Rattle.bi_norm.proofs.laws.aligned_by_four_is_external.Goals as goal

pub returns : goal.returns
returns c = meaning_aligned_by_four
