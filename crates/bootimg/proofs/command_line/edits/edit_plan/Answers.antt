use Rattle.bootimg.proofs.EditPlans.{asked_failure, asked_plan}
use Rattle.bootimg.proofs.command_line.edits.edit_plan.Goals as goal

pub returns-then-asks_for_edits-clause-plan : goal.returns-then-asks_for_edits-clause-plan
returns-then-asks_for_edits-clause-plan c =
    asked_plan c.args.options.now c.requested_edits.result (c.asks_for_edits.ensures.edits c.if-asks_for_edits.true)
    c.requested_edits.ensures.plan

pub returns-then-asks_for_edits-clause-failure : goal.returns-then-asks_for_edits-clause-failure
returns-then-asks_for_edits-clause-failure c =
    asked_failure c.args.options.now c.requested_edits.result (c.asks_for_edits.ensures.edits c.if-asks_for_edits.true)
    c.requested_edits.ensures.failure
