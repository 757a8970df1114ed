use Rattle.bootimg.proofs.TaskFacts.{get_failures_are_known}
use Rattle.bootimg.proofs.known_works.get_failures_are_known.Goals as goal

pub returns : goal.returns
returns c = get_failures_are_known c.one_meaning.ensures
