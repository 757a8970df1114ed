use Rattle.std.proofs.Common.{arith}
use Rattle.bi_describe.specs.MadeLines.{compared_lines}
use Rattle.bi_describe.proofs.LineSets.{missing_more}
use Rattle.bi_describe.proofs.compare.differences.missing_texts.Goals as goal

pub loop-line-preserved : goal.loop-line-preserved
loop-line-preserved c =
    missing_more (compared_lines c.args.lines.now) c.args.others.now c.loop-line.line-index _ c.numbered.result c.loop-line.missing
    c.remove.new.self (omega arith) c.numbered.ensures c.remove.ensures.updates c.loop-line.invariant
