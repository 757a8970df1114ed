use Rattle.bi_edit.proofs.EditOutputFacts.{edited_texts_are_known}
use Rattle.bi_edit.proofs.known_edits.edited_texts_are_known.Goals as goal

pub returns : goal.returns
returns c = edited_texts_are_known c.one_meaning.ensures
