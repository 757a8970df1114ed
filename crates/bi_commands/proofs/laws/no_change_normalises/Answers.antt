use Rattle.bi_commands.proofs.UpdatedFiles.{no_change_normalises}
use Rattle.bi_commands.proofs.laws.no_change_normalises.Goals as goal

pub returns : goal.returns
returns c = no_change_normalises
