use Rattle.std.proofs.Common.{◌≡◌, ◌<◌, ℕ, List, Bor, [], length, ap, ◌∙◌, arith}
use Rattle.bi_plain.proofs.MarkedSteps.{kept_more, left_out, numbers_kept, numbers_left}
use Rattle.bi_plain.proofs.writer.names.keep_marked.Goals as goal
use Rattle.bi_plain.proofs.writer.names.keep_marked.Goals.{then-marks-index+in_ok-push-2, else-marks-index}

pub loop-index-preserved : goal.loop-index-preserved
loop-index-preserved c =
    let names = c.args.names.now in
    let marks = c.args.marks.now in
    let index = c.loop-index.index in
    let kept = c.loop-index.kept.items in
    let within : index < length marks = omega (arith, c.loop-index-test.true, c.requires) in
    let counted : c.len.result ≡ length kept = omega (arith, c.len.ensures) in
    elim c.if-marks-index.branch [
      | then-marks-index+in_ok-push-2 w ↦
          let more = ap (λ v. v.items) w.kept-is ∙ w.in_ok-push-2.ensures.items in (
            kept_more names marks index _ c.loop-index-test.true within kept w.if-marks-index.true _ more
                ∙ c.loop-index.invariant.0,
            numbers_kept names marks index _ c.loop-index-test.true within kept c.loop-index.numbers.items _ c.len.result
                c.in_ok-push.ensures.items counted w.if-marks-index.true _ more
                ∙ c.loop-index.invariant.1,
          )
      | else-marks-index w ↦
          let same = ap (λ v. v.items) w.kept-is in
          let none : Bor (List ℕ) = record { ref_ptr = (0, 0); now = [] } in (
            left_out names marks index none c.loop-index-test.true within kept w.if-marks-index.false _ same
                ∙ c.loop-index.invariant.0,
            numbers_left names marks index none c.loop-index-test.true within kept c.loop-index.numbers.items _ c.len.result
                c.in_ok-push.ensures.items counted w.if-marks-index.false _ same
                ∙ c.loop-index.invariant.1,
          )
    ]
