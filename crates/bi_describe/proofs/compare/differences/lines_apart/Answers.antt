use Rattle.std.proofs.Common.{arith, []}
use Rattle.bi_describe.specs.Differences.{has_text, only_line}
use Rattle.bi_describe.specs.MadeLines.{compared_line, compared_lines}
use Rattle.bi_describe.proofs.LineSets.{pushed_more}
use Rattle.bi_describe.proofs.compare.differences.lines_apart.Goals as goal

pub loop-index-preserved : goal.loop-index-preserved
loop-index-preserved c =
    pushed_more compared_line (only_line (has_text (compared_lines c.args.others.now))) [] c.args.lines.now c.loop-index.index
    _ _ _ (omega arith) c.loop-index.invariant c.in_ok-push_apart.ensures
