use Rattle.bi_describe.proofs.NothingLeftOutDeep.{nothing_left_out_compares_deep}
use Rattle.bi_describe.proofs.laws.nothing_left_out_compares_deep.Goals as goal

pub returns : goal.returns
returns c = nothing_left_out_compares_deep
