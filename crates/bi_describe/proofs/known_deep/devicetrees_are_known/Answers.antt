use Rattle.bi_describe.proofs.KnownDeepFacts.{devicetrees_are_known}
use Rattle.bi_describe.proofs.known_deep.devicetrees_are_known.Goals as goal

pub returns : goal.returns
returns c = devicetrees_are_known
