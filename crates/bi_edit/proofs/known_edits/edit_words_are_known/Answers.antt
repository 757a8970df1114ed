use Rattle.bi_edit.proofs.KnownWordFacts.{edit_words_are_known, other_edit_words_are_known}
use Rattle.bi_edit.proofs.known_edits.edit_words_are_known.Goals as goal

pub returns : goal.returns
returns c = record { words = edit_words_are_known; others = other_edit_words_are_known }
