use Rattle.std.proofs.Common.{Some, ◌∙◌, ap, refl, rules, sym}
use Rattle.bootimg.proofs.ImageRuns.{held_work, held_failure}
use Rattle.bootimg.proofs.SameStreams.{job_work_keeps}
use Rattle.bootimg.proofs.requests.do_job_in_memory.Goals as goal

pub returns-in-Ok-clause-done : goal.returns-in-Ok-clause-done
returns-in-Ok-clause-done g c =
    let keeps = job_work_keeps _ _ _ _ _ _ c.do_job.ensures.work in
    let writer = sym c.new-memory.ensures.same_writer ∙ sym keeps.writer in
    held_work _ _ _ _ _ _ _ c.do_job.result _ _ c.in-Ok.is
    (c.new-memory.ensures.contents ∙ ap (λ items. Some items) c.new-bytes.ensures.items) c.new-memory.ensures.well (search rules)
    c.do_job.ensures.work

pub returns-clause-failed : goal.returns-clause-failed
returns-clause-failed g c =
    held_failure _ _ _ _ _ _ _ c.do_job.result c.in-Err.failed _ c.in-Err.is
    (c.new-memory.ensures.contents ∙ ap (λ items. Some items) c.new-bytes.ensures.items) c.new-memory.ensures.well c.do_job.ensures.work
    refl c.in_memory.ensures
