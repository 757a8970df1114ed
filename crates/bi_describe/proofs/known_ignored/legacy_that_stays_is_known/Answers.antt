use Rattle.bi_describe.proofs.IgnoredFacts.{legacy_that_stays_is_known}
use Rattle.bi_describe.proofs.known_ignored.legacy_that_stays_is_known.Goals as goal

pub returns : goal.returns
returns c = legacy_that_stays_is_known
