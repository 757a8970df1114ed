use Rattle.bi_c.proofs.NoteFacts.{note_numbers_are_known}
use Rattle.bi_c.proofs.known_calls.note_numbers_are_known.Goals as goal

pub returns : goal.returns
returns c = note_numbers_are_known c.one_meaning.ensures
