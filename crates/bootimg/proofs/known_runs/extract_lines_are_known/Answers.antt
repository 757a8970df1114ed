use Rattle.bootimg.proofs.RunEnds.{extract_lines_are_known}
use Rattle.bootimg.proofs.known_runs.extract_lines_are_known.Goals as goal

pub returns : goal.returns
returns c = extract_lines_are_known
