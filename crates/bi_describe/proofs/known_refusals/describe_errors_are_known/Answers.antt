use Rattle.bi_describe.proofs.RefusalFacts.{describe_errors_are_known}
use Rattle.bi_describe.proofs.known_refusals.describe_errors_are_known.Goals as goal

pub returns : goal.returns
returns c = describe_errors_are_known c.one_meaning.ensures
