use Rattle.bi_describe.proofs.RefusalFacts.{description_bounds_are_known}
use Rattle.bi_describe.proofs.known_refusals.description_bounds_are_known.Goals as goal

pub returns : goal.returns
returns c = description_bounds_are_known
