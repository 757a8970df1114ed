use Rattle.bi_c.proofs.IgnoringCallFacts.{ignoring_calls_are_known}
use Rattle.bi_c.proofs.known_ignoring.ignoring_calls_are_known.Goals as goal

pub returns : goal.returns
returns c = ignoring_calls_are_known c.one_meaning.ensures
