use Rattle.bi_c.proofs.EditCallFacts.{edit_arguments_are_known, edit_calls_are_known, edit_elements_are_known}
use Rattle.bi_c.proofs.known_edit_calls.edit_calls_are_known.Goals as goal

pub returns-clause-elements : goal.returns-clause-elements
returns-clause-elements c = edit_elements_are_known

pub returns-clause-arguments : goal.returns-clause-arguments
returns-clause-arguments c = edit_arguments_are_known

pub returns-clause-calls : goal.returns-clause-calls
returns-clause-calls c = edit_calls_are_known c.one_meaning.ensures
