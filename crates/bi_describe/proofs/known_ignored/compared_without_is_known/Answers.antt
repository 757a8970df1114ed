use Rattle.bi_describe.proofs.ComparedWithoutFacts.{compared_without_is_known}
use Rattle.bi_describe.proofs.known_ignored.compared_without_is_known.Goals as goal

pub returns : goal.returns
returns c = compared_without_is_known c.one_meaning.ensures
