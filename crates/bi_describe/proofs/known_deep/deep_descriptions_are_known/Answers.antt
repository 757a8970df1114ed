use Rattle.bi_describe.proofs.KnownDeepFacts.{deep_descriptions_are_known}
use Rattle.bi_describe.proofs.known_deep.deep_descriptions_are_known.Goals as goal

pub returns : goal.returns
returns c = deep_descriptions_are_known
