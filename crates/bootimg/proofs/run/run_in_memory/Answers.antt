use Rattle.bootimg.proofs.MemoryRuns.{memory_run_leaves}
use Rattle.bootimg.proofs.run.run_in_memory.Goals as goal

pub returns-else-has_lost_steps-2-clause-left : goal.returns-else-has_lost_steps-2-clause-left
returns-else-has_lost_steps-2-clause-left g c =
    let ran = c.run_with_files-status.ensures in
    memory_run_leaves _ _ _ _ _ _ ran.run _ _ (c.has_lost_steps.ensures.not_lost c.if-has_lost_steps.false)
    (c.has_lost_steps-2.ensures.not_lost c.if-has_lost_steps-2.false)
    ran.is_run ran.remaining_before ran.is_status ran.steps_before ran.steps_after
