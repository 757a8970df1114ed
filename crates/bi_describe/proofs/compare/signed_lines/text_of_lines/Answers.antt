use Rattle.std.proofs.Common.{arith, []}
use Rattle.bi_describe.specs.Differences.{signed_text}
use Rattle.bi_describe.specs.MadeLines.{made_line}
use Rattle.bi_describe.proofs.LineSets.{pushed_more}
use Rattle.bi_describe.proofs.compare.signed_lines.text_of_lines.Goals as goal

pub loop-line-preserved : goal.loop-line-preserved
loop-line-preserved c =
    pushed_more made_line signed_text [] c.args.lines.now c.loop-line.line-index _ _ _ (omega arith) c.loop-line.invariant
    c.in_ok-push_line.ensures
