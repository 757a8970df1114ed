use Rattle.bi_describe.proofs.ComparedWithoutFacts.{ignoring_errors_are_known}
use Rattle.bi_describe.proofs.known_ignored.ignoring_errors_are_known.Goals as goal

pub returns : goal.returns
returns c = ignoring_errors_are_known c.one_meaning.ensures
