use Rattle.bi_base.proofs.PipeFacts.{traced_runs_are_known}
use Rattle.bi_base.proofs.known_pipes.traced_runs_are_known.Goals as goal

pub returns : goal.returns
returns c = traced_runs_are_known
