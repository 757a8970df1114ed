use Rattle.bootimg.proofs.RunEnds.{value_lines_are_known}
use Rattle.bootimg.proofs.known_runs.value_lines_are_known.Goals as goal

pub returns : goal.returns
returns c = value_lines_are_known
