use Rattle.std.proofs.Common.{arith, refl}
use Rattle.bi_describe.proofs.LineSets.{set_more}
use Rattle.bi_describe.proofs.compare.differences.texts_of.Goals as goal

pub loop-line-preserved : goal.loop-line-preserved
loop-line-preserved c text =
    set_more (λ line. line.text) (λ line. line.text) c.args.lines.now c.loop-line.line-index _ c.numbered.result
    c.loop-line.texts c.insert.new.self (λ line. refl) (omega arith) c.numbered.ensures c.in_ok-insert.ensures.updates text (c.loop-line.invariant text)
