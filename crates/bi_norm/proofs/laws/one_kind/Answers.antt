use Rattle.bi_norm.proofs.KindLaws.{one_kind}
use Rattle.bi_norm.proofs.laws.one_kind.Goals as goal

pub returns : goal.returns
returns c = one_kind
