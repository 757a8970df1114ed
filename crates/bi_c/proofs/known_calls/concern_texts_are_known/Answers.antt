use Rattle.bi_c.proofs.CallFacts.{concern_texts_are_known}
use Rattle.bi_c.proofs.known_calls.concern_texts_are_known.Goals as goal

pub returns : goal.returns
returns c = concern_texts_are_known
