use Rattle.std.proofs.Common.{arith, refl}
use Rattle.bi_describe.proofs.LineSets.{set_more}
use Rattle.bi_describe.proofs.compare.differences.keys_of.Goals as goal

pub loop-line-preserved : goal.loop-line-preserved
loop-line-preserved c key =
    set_more (λ line. line.key) (λ line. line.key) c.args.lines.now c.loop-line.line-index _ c.numbered.result
    c.loop-line.keys c.insert.new.self (λ line. refl) (omega arith) c.numbered.ensures c.in_ok-insert.ensures.updates key (c.loop-line.invariant key)
