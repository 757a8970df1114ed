use Rattle.bi_describe.proofs.IgnoredFacts.{trees_that_stay_are_known}
use Rattle.bi_describe.proofs.known_ignored.trees_that_stay_are_known.Goals as goal

pub returns : goal.returns
returns c = trees_that_stay_are_known
