use Rattle.bi_c.proofs.LegacyCallFacts.{text_calls_are_known}
use Rattle.bi_c.proofs.known_calls.text_calls_are_known.Goals as goal

pub returns : goal.returns
returns c = text_calls_are_known c.one_meaning.ensures c.pages_are_known.ensures
