use Rattle.std.proofs.Common.{◌≡◌, ◌≤◌, ℕ, List, length, refl, sym, ap, subst, ◌∙◌, arith}
use Rattle.std.proofs.lemmas.Result.{err_from_is_err_and}
use Rattle.bi_base.specs.Commands.{WasRefused, SinkFailed}
use Rattle.bi_blob.specs.Layout.{longest_text}
use Rattle.bi_fit.specs.declared.form.Form.TheVariants.{External}
use Rattle.bi_fit.specs.Content.{tree_of}
use Rattle.bi_fit.specs.Reading.{IsFitReadError, IsReadFit}
use Rattle.bi_fit.specs.Text.{fit_text}
use Rattle.bi_norm.specs.Meaning.{OfFit}
use Rattle.bi_edit.specs.FormChoices.{IsChosenForm}
use Rattle.bi_edit.proofs.EditedFiles.{blob_not_read, edits_out_of_memory, text_not_made, tree_is_edited, tree_not_edited, tree_output}
use Rattle.bi_edit.proofs.editing.edit_tree.Goals as goal

pub returns-in_err-form-clause-failed : goal.returns-in_err-form-clause-failed
returns-in_err-form-clause-failed g c file opened =
    let p = err_from_is_err_and c.from_residual.result c.from_residual.ensures.1 in
    rw (p.1, p.2) (WasRefused (edits_out_of_memory c.args.edits.now c.args.choice c.args.limits file (OfFit (tree_of c.args.fit.now))
    opened.means) refl)

pub returns-in_err-blob-clause-failed : goal.returns-in_err-blob-clause-failed
returns-in_err-blob-clause-failed g c file opened =
    let p = err_from_is_err_and c.from_residual-in_err-blob.result c.from_residual-in_err-blob.ensures.1 in
    rw (p.1, p.2) (WasRefused (tree_not_edited c.args.edits.now c.args.choice c.args.limits file c.args.fit.now opened c.in_ok-form.form
    (c.in_ok-form.ensures c.args.limits file opened) c.know_edits.ensures _ c.in_err-blob.ensures.failed) refl)

pub returns-in_err-edited-clause-failed : goal.returns-in_err-edited-clause-failed
returns-in_err-edited-clause-failed g c file opened =
    let p = err_from_is_err_and c.from_residual-in_err-edited.result c.from_residual-in_err-edited.ensures.1 in
    rw (p.1, p.2) (WasRefused (blob_not_read c.args.edits.now c.args.choice c.args.limits file c.args.fit.now opened c.in_ok-form.form
    (c.in_ok-form.ensures c.args.limits file opened) c.in_ok-blob.blob.items c.in_ok-blob.ensures.edited _
    (subst (λ (blob : List ℕ). IsFitReadError c.args.limits blob c.in_err-edited.field-0.0) c.deref.ensures.value
    c.in_err-edited.ensures.failed)) refl)

pub returns-in_err-text-clause-failed : goal.returns-in_err-text-clause-failed
returns-in_err-text-clause-failed g c file opened =
    let p = err_from_is_err_and c.from_residual-in_err-text.result c.from_residual-in_err-text.ensures.1 in
    rw (p.1, p.2) (WasRefused (text_not_made c.args.edits.now c.args.choice c.args.limits file c.args.fit.now opened c.in_ok-form.form
    (c.in_ok-form.ensures c.args.limits file opened) c.in_ok-blob.blob.items c.in_ok-blob.ensures.edited c.in_ok-edited.edited
    (subst (λ (blob : List ℕ). IsReadFit c.args.limits blob c.in_ok-edited.edited) c.deref.ensures.value
    c.in_ok-edited.ensures.read) _ c.in_err-text.ensures.failed) refl)

pub notes_of-requires-clause-held : goal.notes_of-requires-clause-held
notes_of-requires-clause-held g c = c.in_ok-edited.ensures.read.held

pub notes_of-requires-clause-size : goal.notes_of-requires-clause-size
notes_of-requires-clause-size g c = λ given.
    let is_form : c.in_ok-form.form ≡ External =
    subst (λ choice. IsChosenForm choice c.requires.0 (OfFit (tree_of c.args.fit.now)) c.in_ok-form.form) given
    (c.in_ok-form.ensures c.args.limits c.requires.0 c.requires.1) in (
      ap (λ form. length (fit_text form (tree_of c.in_ok-edited.edited))) (sym is_form)
          ∙ ap length (sym c.in_ok-text.ensures.text.is_text)
          ∙ sym c.size.ensures.size,
      c.size.ensures.small,
    )

pub returns-in_err-notes-clause-failed : goal.returns-in_err-notes-clause-failed
returns-in_err-notes-clause-failed g c file opened =
    let p = err_from_is_err_and c.from_residual-in_err-notes.result c.from_residual-in_err-notes.ensures.1 in
    rw (p.1, p.2) (WasRefused (edits_out_of_memory c.args.edits.now c.args.choice c.args.limits file (OfFit (tree_of c.args.fit.now))
    opened.means) refl)

pub returns-in_err-emit-clause-failed : goal.returns-in_err-emit-clause-failed
returns-in_err-emit-clause-failed g c file opened =
    let p = err_from_is_err_and c.from_residual-in_err-emit.result c.from_residual-in_err-emit.ensures.1 in
    let most : c.args.limits.file ≤ longest_text = omega arith in
    let is = tree_is_edited c.args.edits.now c.args.choice c.args.limits file c.args.fit.now opened c.in_ok-form.form
    (c.in_ok-form.ensures c.args.limits file opened) c.in_ok-blob.blob.items c.in_ok-blob.ensures.edited c.in_ok-edited.edited
    (subst (λ (blob : List ℕ). IsReadFit c.args.limits blob c.in_ok-edited.edited) c.deref.ensures.value
    c.in_ok-edited.ensures.read) most c.in_ok-text.text c.in_ok-text.ensures.text in
    rw (p.1, p.2) (SinkFailed c.in_ok-text.text c.in_err-emit.field-0.0 is c.in_err-emit.ensures refl)

pub returns-clause-appended : goal.returns-clause-appended
returns-clause-appended g c file opened =
    let most : c.args.limits.file ≤ longest_text = omega arith in
    record {
      text = c.in_ok-text.text;
      is_text = tree_output c.args.edits.now c.args.choice c.args.limits file c.args.fit.now opened c.in_ok-form.form
          (c.in_ok-form.ensures c.args.limits file opened) c.in_ok-blob.blob.items c.in_ok-blob.ensures.edited c.in_ok-edited.edited
          (subst (λ (blob : List ℕ). IsReadFit c.args.limits blob c.in_ok-edited.edited) c.deref.ensures.value
          c.in_ok-edited.ensures.read) most c.in_ok-text.text c.in_ok-text.ensures.text c.in_ok-notes.notes
          (c.in_ok-notes.ensures c.args.limits file opened);
      appended = c.in_ok-emit.ensures;
    }
