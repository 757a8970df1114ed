use Rattle.bi_c.proofs.CallFacts.{pieces_are_known}
use Rattle.bi_c.proofs.known_calls.pieces_are_known.Goals as goal

pub returns : goal.returns
returns c = pieces_are_known
