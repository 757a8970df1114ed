use Rattle.bi_describe.proofs.DescribedFileFacts.{compared_texts_are_known}
use Rattle.bi_describe.proofs.known_texts.compared_texts_are_known.Goals as goal

pub returns : goal.returns
returns c = compared_texts_are_known c.one_meaning.ensures
