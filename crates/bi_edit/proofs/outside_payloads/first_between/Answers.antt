use Rattle.std.proofs.Common.{arith}
use Rattle.bi_edit.proofs.PlacedLists.{aligned_from}
use Rattle.bi_edit.proofs.outside_payloads.first_between.Goals as goal

pub returns-then-payload-power-ne0-clause-some : goal.returns-then-payload-power-ne0-clause-some
returns-then-payload-power-ne0-clause-some c = (
  λ whole. omega (arith, c.if-payload-power-ne0.true, whole),
  λ other all.
      ((aligned_from c.args.placed.now c.loop-payload.payload-index c.loop-payload-test.true other).0
      (c.loop-payload.invariant.left other all)).0,
)

pub loop-payload-preserved : goal.loop-payload-preserved
loop-payload-preserved c =
    let step = aligned_from c.args.placed.now c.loop-payload.payload-index c.loop-payload-test.true in
    record {
      all = λ all. c.loop-payload.invariant.all ((step c.args.power).1 (omega (arith, c.if-payload-power-ne0.false), all));
      left = λ other all. ((step other).0 (c.loop-payload.invariant.left other all)).1;
    }
