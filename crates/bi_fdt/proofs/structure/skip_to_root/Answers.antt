use Rattle.std.proofs.Common.{sym, rules}
use Rattle.bi_base.proofs.Refusals.{fault_passed_on, refused_with}
use Rattle.bi_blob.specs.OpenNodes.{NoTree}
use Rattle.bi_fdt.specs.Blocks.{blocks_of}
use Rattle.bi_fdt.proofs.RootSteps.{past_nop, no_number, bad_token, unexpected_before}
use Rattle.bi_fdt.proofs.structure.skip_to_root.Goals as goal

pub returns-in_err-number-clause-fault : goal.returns-in_err-number-clause-fault
returns-in_err-number-clause-fault c =
    fault_passed_on _ c.in_err-number.field-0.0 _ c.from_residual.ensures.1
    (λ depth_limit. no_number (blocks_of c.args.blocks) depth_limit c.loop-number.place NoTree
    (c.loop-number.invariant.position depth_limit) _
    c.in_err-number.ensures.fault.0 c.in_err-number.ensures.fault.1)

pub returns-then-number-ne-NOP-clause-fault : goal.returns-then-number-ne-NOP-clause-fault
returns-then-number-ne-NOP-clause-fault c =
    refused_with _ _ _ c.refuse.ensures
    (λ depth_limit. bad_token (blocks_of c.args.blocks) depth_limit c.loop-number.place NoTree c.in_ok-number.number
    (c.loop-number.invariant.position depth_limit)
    (record { within = c.in_ok-number.ensures.within; is_number = sym c.in_ok-number.ensures.number })
    (unexpected_before c.in_ok-number.number c.if-number-ne-NOP.true c.if-number-eq-BEGIN_NODE.false))

pub loop-number-preserved : goal.loop-number-preserved
loop-number-preserved c = search (rules, past_nop)
