use Rattle.bootimg.specs.Tasks.{task_promise}
use Rattle.bootimg.proofs.TaskFailures.{any_failed_at}
use Rattle.bootimg.proofs.tasks.PlacedTaskCommand.run.Goals as goal

pub returns-clause-failed : goal.returns-clause-failed
returns-clause-failed g c =
    let limits = c.args.limits in
    let promise = task_promise c.args.self.now.task.now limits in
    any_failed_at g.S.Sink.fails promise.wraps (λ image text. promise.is_text image text) (λ image failure. promise.has_error image failure)
    limits c.args.self.now.offset c.args.input.now c.image_at-image.result.now c.args.sink.now c.run_on.new.sink c.run_on.result
    c.requires.short
    c.image_at-image.ensures c.run_on.ensures.failed
