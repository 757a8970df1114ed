use Rattle.std.proofs.Common.{arith}
use Rattle.bi_base.proofs.Refusals.{fault_passed_on}
use Rattle.bi_coverage.proofs.NeededLengths.{times_less}
use Rattle.bi_coverage.proofs.needed.add_lengths.Goals as goal

pub addition-preserved : goal.addition-preserved
addition-preserved c =
    let less = times_less c.addition.left c.args.length c.addition-test.true in
    record {
      is_sum = omega (arith, less, c.in_ok-sum.ensures.sum, c.addition.invariant.is_sum);
      within = c.in_ok-sum.ensures.within;
    }

pub returns-in_err-sum-clause-fault : goal.returns-in_err-sum-clause-fault
returns-in_err-sum-clause-fault c =
    let less = times_less c.addition.left c.args.length c.addition-test.true in
    fault_passed_on _ _ _ c.from_residual.ensures.1
    (c.in_err-sum.ensures.fault.0, omega (arith, less, c.in_err-sum.ensures.fault.1, c.addition.invariant.is_sum))
