use Rattle.bootimg.proofs.RunEnds.{compare_lines_are_known}
use Rattle.bootimg.proofs.known_runs.compare_lines_are_known.Goals as goal

pub returns : goal.returns
returns c ignored = compare_lines_are_known ignored
