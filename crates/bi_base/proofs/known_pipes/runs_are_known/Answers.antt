use Rattle.bi_base.proofs.PipeFacts.{runs_are_known}
use Rattle.bi_base.proofs.known_pipes.runs_are_known.Goals as goal

pub returns : goal.returns
returns c = runs_are_known
