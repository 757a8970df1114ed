use Rattle.std.proofs.Common.{◌-◌, arith}
use Rattle.bi_describe.proofs.LineSets.{first_more}
use Rattle.bi_describe.proofs.compare.differences.first_by_key.Goals as goal

pub loop-index-preserved : goal.loop-index-preserved
loop-index-preserved c =
    first_more c.args.lines.now (c.loop-index.index - 1) c.loop-index.index _ c.numbered.result c.loop-index.first c.insert.new.self
    (omega arith) (omega arith) c.numbered.ensures c.in_ok-insert.ensures.updates c.loop-index.invariant
