use Rattle.bi_base.proofs.PipeFacts.{appends_are_known}
use Rattle.bi_base.proofs.known_pipes.appends_are_known.Goals as goal

pub returns : goal.returns
returns c = appends_are_known
