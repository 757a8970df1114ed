use Rattle.bi_describe.proofs.IgnoredFacts.{same_without_is_known}
use Rattle.bi_describe.proofs.known_ignored.same_without_is_known.Goals as goal

pub returns : goal.returns
returns c = same_without_is_known
