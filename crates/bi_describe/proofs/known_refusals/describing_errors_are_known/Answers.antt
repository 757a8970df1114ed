use Rattle.bi_describe.proofs.RefusalFacts.{describing_errors_are_known}
use Rattle.bi_describe.proofs.known_refusals.describing_errors_are_known.Goals as goal

pub returns : goal.returns
returns c = describing_errors_are_known
