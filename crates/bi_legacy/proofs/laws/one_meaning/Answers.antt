use Rattle.bi_legacy.proofs.OneMeaning.{one_legacy_meaning}
use Rattle.bi_legacy.proofs.laws.one_meaning.Goals as goal

pub returns : goal.returns
returns c = one_legacy_meaning
