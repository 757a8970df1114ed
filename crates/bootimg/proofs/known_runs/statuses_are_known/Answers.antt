use Rattle.bootimg.proofs.RunEnds.{statuses_are_known}
use Rattle.bootimg.proofs.known_runs.statuses_are_known.Goals as goal

pub returns : goal.returns
returns c = statuses_are_known
