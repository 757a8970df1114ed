use Rattle.bi_describe.proofs.RefusalFacts.{reading_errors_are_known}
use Rattle.bi_describe.proofs.known_refusals.reading_errors_are_known.Goals as goal

pub returns : goal.returns
returns c = reading_errors_are_known
