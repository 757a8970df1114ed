use Rattle.bootimg.proofs.RunEnds.{failure_lines_are_known}
use Rattle.bootimg.proofs.known_runs.failure_lines_are_known.Goals as goal

pub returns : goal.returns
returns c = failure_lines_are_known
