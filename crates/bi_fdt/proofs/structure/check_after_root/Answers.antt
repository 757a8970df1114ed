use Rattle.std.proofs.Common.{sym, ◌∙◌, rules}
use Rattle.bi_base.proofs.Refusals.{fault_passed_on, refused_with}
use Rattle.bi_blob.specs.OpenNodes.{WholeTree}
use Rattle.bi_fdt.specs.Blocks.{blocks_of}
use Rattle.bi_fdt.proofs.RootSteps.{past_nop, past_end, no_number, bad_token, unexpected_after}
use Rattle.bi_fdt.proofs.structure.check_after_root.Goals as goal

pub returns-in_err-number-clause-fault : goal.returns-in_err-number-clause-fault
returns-in_err-number-clause-fault c =
    fault_passed_on _ c.in_err-number.field-0.0 _ c.from_residual.ensures.1
    (λ depth_limit root position. no_number (blocks_of c.args.blocks) depth_limit c.loop-number.place (WholeTree root)
    (c.loop-number.invariant.position depth_limit root position) _
    c.in_err-number.ensures.fault.0 c.in_err-number.ensures.fault.1)

pub returns-then-number-eq-END-clause-ok : goal.returns-then-number-eq-END-clause-ok
returns-then-number-eq-END-clause-ok c = λ depth_limit root position.
    past_end (blocks_of c.args.blocks) depth_limit c.loop-number.place root (c.loop-number.invariant.position depth_limit root position)
    (record { within = c.in_ok-number.ensures.within; is_number = sym c.in_ok-number.ensures.number ∙ c.if-number-eq-END.true })

pub returns-then-number-ne-NOP-clause-fault : goal.returns-then-number-ne-NOP-clause-fault
returns-then-number-ne-NOP-clause-fault c =
    refused_with _ _ _ c.refuse.ensures
    (λ depth_limit root position. bad_token (blocks_of c.args.blocks) depth_limit c.loop-number.place (WholeTree root) c.in_ok-number.number
    (c.loop-number.invariant.position depth_limit root position)
    (record { within = c.in_ok-number.ensures.within; is_number = sym c.in_ok-number.ensures.number })
    (unexpected_after c.in_ok-number.number c.if-number-ne-NOP.true c.if-number-eq-END.false))

pub loop-number-preserved : goal.loop-number-preserved
loop-number-preserved c = search (rules, past_nop)
