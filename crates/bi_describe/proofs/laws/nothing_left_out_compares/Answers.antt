use Rattle.bi_describe.proofs.NothingLeftOut.{nothing_left_out_compares}
use Rattle.bi_describe.proofs.laws.nothing_left_out_compares.Goals as goal

pub returns : goal.returns
returns c = nothing_left_out_compares
