use Rattle.bi_edit.proofs.EditNoteFacts.{notes_of_aligned_are_known, notes_of_position_are_known}
use Rattle.bi_edit.proofs.known_edits.edit_notes_are_known.Goals as goal

pub returns : goal.returns
returns c = record { position = notes_of_position_are_known; aligned = notes_of_aligned_are_known }
