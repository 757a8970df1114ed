use Rattle.std.proofs.Common.{refl}
use Rattle.bootimg.specs.Runs.{OneNotRead}
use Rattle.bootimg.proofs.ImageRuns.{both_read, other_not_read}
use Rattle.bootimg.proofs.jobs.compare_images.Goals as goal

pub returns-in-Err-clause-work : goal.returns-in-Err-clause-work
returns-in-Err-clause-work g c =
    OneNotRead c.in-Err.failure c.in-Err.ensures.failed (record { nothing_written = refl; outcome = c.job_failed.ensures })

pub returns-in-Err-read_image-clause-work : goal.returns-in-Err-read_image-clause-work
returns-in-Err-read_image-clause-work g c =
    other_not_read _ _ c.args.plan.now _ _ _ _ c.in-Ok.one.items _ c.in-Err-read_image.failure c.in-Ok.ensures.read
    c.in-Ok.ensures.same_files c.in-Err-read_image.ensures.failed
    (record { nothing_written = refl; outcome = c.job_failed-in-Err-read_image.ensures })

pub returns-clause-work : goal.returns-clause-work
returns-clause-work g c =
    both_read _ _ c.args.plan.now _ _ _ _ c.in-Ok.one.items c.in-Ok-read_image.other.items _ _ _ c.in-Ok.ensures.read
    c.in-Ok.ensures.same_files c.in-Ok-read_image.ensures.read c.deref.ensures.value c.deref-2.ensures.value
    (c.compare_files.ensures _ _)
