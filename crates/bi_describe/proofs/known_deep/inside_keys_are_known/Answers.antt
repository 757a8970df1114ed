use Rattle.bi_describe.proofs.KnownDeepFacts.{inside_keys_are_known}
use Rattle.bi_describe.proofs.known_deep.inside_keys_are_known.Goals as goal

pub returns : goal.returns
returns c = inside_keys_are_known
