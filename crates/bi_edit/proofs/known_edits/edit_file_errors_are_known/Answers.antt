use Rattle.bi_edit.proofs.EditOutputFacts.{edit_file_errors_are_known}
use Rattle.bi_edit.proofs.known_edits.edit_file_errors_are_known.Goals as goal

pub returns : goal.returns
returns c = edit_file_errors_are_known c.one_meaning.ensures
