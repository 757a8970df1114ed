use Rattle.bootimg.proofs.RunEnds.{notes_are_known}
use Rattle.bootimg.proofs.known_runs.notes_are_known.Goals as goal

pub returns : goal.returns
returns c = notes_are_known
