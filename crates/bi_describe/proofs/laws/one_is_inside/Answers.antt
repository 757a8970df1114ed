use Rattle.bi_describe.proofs.OneInside.{one_is_inside}
use Rattle.bi_describe.proofs.laws.one_is_inside.Goals as goal

pub returns : goal.returns
returns c = one_is_inside
