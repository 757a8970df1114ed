use Rattle.std.proofs.Common.{arith}
use Rattle.bi_describe.specs.Differences.{removed_lines}
use Rattle.bi_describe.specs.LineSets.{text_at}
use Rattle.bi_describe.specs.MadeLines.{compared_line}
use Rattle.bi_describe.proofs.LineSets.{pushed_more}
use Rattle.bi_describe.proofs.compare.differences.push_removed.Goals as goal

pub loop-line-preserved : goal.loop-line-preserved
loop-line-preserved c =
    pushed_more compared_line (removed_lines (text_at c.args.first.now)) _ c.args.removed.now c.loop-line.line-index
    _ _ _ (omega arith) c.loop-line.invariant c.in_ok-push_removed_line.ensures
