use Rattle.bi_c.proofs.DeepCallFacts.{deep_calls_are_known}
use Rattle.bi_c.proofs.known_ignoring.deep_calls_are_known.Goals as goal

pub returns : goal.returns
returns c = deep_calls_are_known c.one_meaning.ensures
