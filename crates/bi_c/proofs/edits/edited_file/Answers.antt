use Rattle.std.proofs.Common.{◌≡◌, ◌∙◌, ◌++◌, List, ℕ, ap, subst, sym}
use Rattle.std.specs.List.{AllZip}
use Rattle.bi_c.specs.EditCalls.{HasEditElements, IsEditCallFailure, IsEditOf, IsEditedFile}
use Rattle.bi_c.proofs.CallAnswers.{is_so}
use Rattle.bi_c.proofs.EditedCalls.{made_of, not_made_in_memory}
use Rattle.bi_c.proofs.edits.edited_file.Goals as goal

pub returns-in-Ok-edit_file_into-clause-made : goal.returns-in-Ok-edit_file_into-clause-made
returns-in-Ok-edit_file_into-clause-made c =
    let input = c.args.input.now in
    let elements = c.args.elements.now in
    let file = c.args.file.now in
    let notes = c.in-Ok-edit_file_into.notes in
    let has : HasEditElements c.args.limit c.args.depth c.args.form input elements = record {
      limits = is_so _ c.in-Some.ensures.in_range;
      choice = c.in-Some-choice_of.choice;
      is_choice = c.in-Some-choice_of.ensures.some;
      are_elements = c.in_default-wrong_element.ensures.none;
    } in
    let appended = c.in-Ok-edit_file_into.ensures.appended in
    let same : c.into_vec.result.items ≡ appended.text =
    c.into_vec.ensures ∙ appended.appended ∙ ap (λ (l : List ℕ). l ++ appended.text) c.new-sink.ensures in
    subst (λ (text : List ℕ). IsEditedFile c.args.limit c.args.depth c.args.form input elements file text notes) (sym same)
    (made_of c.args.limit c.args.depth c.args.form input elements file has c.in-Some.limits c.deref.result.now c.in-Some.ensures.value
    (subst (AllZip (IsEditOf input) elements) (sym c.deref.ensures.value) c.in-Ok.ensures.edits) appended.text notes appended.is_text)

pub returns-clause-failed : goal.returns-clause-failed
returns-clause-failed c =
    let input = c.args.input.now in
    let elements = c.args.elements.now in
    let file = c.args.file.now in
    let has : HasEditElements c.args.limit c.args.depth c.args.form input elements = record {
      limits = is_so _ c.in-Some.ensures.in_range;
      choice = c.in-Some-choice_of.choice;
      is_choice = c.in-Some-choice_of.ensures.some;
      are_elements = c.in_default-wrong_element.ensures.none;
    } in
    subst (IsEditCallFailure c.args.limit c.args.depth c.args.form input elements file) (sym c.failure_of_edit.ensures)
    (not_made_in_memory c.args.limit c.args.depth c.args.form input elements file has c.in-Some.limits c.deref.result.now
    c.in-Some.ensures.value (subst (AllZip (IsEditOf input) elements) (sym c.deref.ensures.value) c.in-Ok.ensures.edits) _ _ _
    c.in-Err-edit_file_into.error (λ text other failed. failed.1) c.in-Err-edit_file_into.ensures.failed)
