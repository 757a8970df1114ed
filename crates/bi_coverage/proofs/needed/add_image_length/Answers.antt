use Rattle.std.proofs.Common.{arith}
use Rattle.bi_base.specs.Slices.{bytes_of}
use Rattle.bi_base.proofs.Refusals.{fault_passed_on}
use Rattle.bi_coverage.proofs.NeededLengths.{part_length, child_added, child_too_long}
use Rattle.bi_coverage.proofs.needed.add_image_length.Goals as goal

pub loop-child-init : goal.loop-child-init
loop-child-init c = record {
  is_sum = omega (arith, part_length c.args.image.now (bytes_of c.args.children.now), c.in_ok-sum.ensures.sum, c.in_ok-sum-2.ensures.sum);
  within = c.in_ok-sum-2.ensures.within;
}

pub returns-in_err-sum-3-clause-fault : goal.returns-in_err-sum-3-clause-fault
returns-in_err-sum-3-clause-fault c =
    fault_passed_on _ _ _ c.from_residual-in_err-sum-3.ensures.1 (
      c.in_err-sum-3.ensures.fault.0,
      child_too_long _ _ _ _ c.loop-child-test.true _ _ c.loop-child.invariant.is_sum _ c.in_err-sum-3.ensures.fault.1,
    )

pub loop-child-preserved : goal.loop-child-preserved
loop-child-preserved c = record {
  is_sum = child_added _ _ _ _ c.loop-child-test.true _ _ c.loop-child.invariant.is_sum _ c.in_ok-sum-3.ensures.sum;
  within = c.in_ok-sum-3.ensures.within;
}
