use Rattle.bootimg.proofs.WorkFacts.{task_failures_are_known}
use Rattle.bootimg.proofs.known_works.task_failures_are_known.Goals as goal

pub returns : goal.returns
returns c = task_failures_are_known
