use Rattle.std.proofs.Common.{arith}
use Rattle.bi_describe.specs.Differences.{added_lines}
use Rattle.bi_describe.specs.LineSets.{set_has, text_at}
use Rattle.bi_describe.specs.MadeLines.{compared_line}
use Rattle.bi_describe.proofs.LineSets.{pushed_more}
use Rattle.bi_describe.proofs.compare.differences.push_added.Goals as goal

pub loop-line-preserved : goal.loop-line-preserved
loop-line-preserved c =
    pushed_more compared_line (added_lines (set_has c.args.keys.now) (text_at c.args.first.now)) _ c.args.added.now c.loop-line.line-index
    _ _ _ (omega arith) c.loop-line.invariant c.in_ok-push_added_line.ensures
