use Rattle.bi_describe.proofs.KnownDeepFacts.{deep_comparisons_are_known}
use Rattle.bi_describe.proofs.known_deep.deep_comparisons_are_known.Goals as goal

pub returns : goal.returns
returns c = deep_comparisons_are_known
