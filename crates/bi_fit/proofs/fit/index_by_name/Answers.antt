use Rattle.std.proofs.Common.{◌-◌, arith}
use Rattle.bi_fit.proofs.Indices.{first_inserted}
use Rattle.bi_fit.proofs.fit.index_by_name.Goals as goal

pub loop-index-preserved : goal.loop-index-preserved
loop-index-preserved c =
    first_inserted c.args.images.now (c.loop-index.index - 1) c.loop-index.index _ c.loop-index.indices c.insert.new.self (omega arith)
    (omega arith) c.in_ok-insert.ensures.updates c.loop-index.invariant
