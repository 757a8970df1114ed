use Rattle.std.proofs.Common.{arith, []}
use Rattle.bi_describe.specs.LineSets.{missing_line}
use Rattle.bi_describe.specs.MadeLines.{compared_line}
use Rattle.bi_describe.proofs.LineSets.{pushed_more}
use Rattle.bi_describe.proofs.compare.differences.missing_lines.Goals as goal

pub loop-line-preserved : goal.loop-line-preserved
loop-line-preserved c =
    pushed_more compared_line (missing_line c.args.missing.now) [] c.args.lines.now c.loop-line.line-index
    _ _ _ (omega arith) c.loop-line.invariant c.in_ok-push_missing.ensures
