use Rattle.bootimg.proofs.ImageRuns.{image_is_built, image_is_edited, images_are_compared, explained_work, task_is_done}
use Rattle.bootimg.proofs.jobs.do_job.Goals as goal

pub returns-in-Run-clause-work : goal.returns-in-Run-clause-work
returns-in-Run-clause-work g c = task_is_done _ c.args.job _ _ _ _ _ c.in-Run.is c.run_on_image.ensures.work

pub returns-in-Compare-clause-work : goal.returns-in-Compare-clause-work
returns-in-Compare-clause-work g c =
    images_are_compared _ c.args.job _ _ _ _ _ c.in-Compare.is c.compare_images.ensures.work

pub returns-in-Edit-clause-work : goal.returns-in-Edit-clause-work
returns-in-Edit-clause-work g c = image_is_edited _ c.args.job _ _ _ _ _ c.in-Edit.is c.edit_image.ensures.work

pub returns-in-Explain-clause-work : goal.returns-in-Explain-clause-work
returns-in-Explain-clause-work g c = explained_work _ c.args.job _ _ _ _ c.in-Explain.is (c.explain.ensures _)

pub returns-in-Build-clause-work : goal.returns-in-Build-clause-work
returns-in-Build-clause-work g c = image_is_built _ c.args.job _ _ _ _ _ c.in-Build.is c.build_image.ensures.work
