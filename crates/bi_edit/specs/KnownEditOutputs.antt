use Rattle.std.specs.Prelude.{◌≡◌, ◌↔◌, ◌⊎◌, ℕ, List, [], ◌∷◌, codes, None}
use Rattle.bi_base.specs.declared.fault.Error.{Error}
use Rattle.bi_base.specs.declared.fault.Error.TheVariants.{OutOfMemory, Refused}
use Rattle.bi_base.specs.Limits.{widest}
use Rattle.bi_blob.specs.KnownTexts.{smallest_text}
use Rattle.bi_fit.specs.declared.form.Form.{Form}
use Rattle.bi_fit.specs.declared.form.Form.TheVariants.{Embedded}
use Rattle.bi_fit.specs.KnownFiles.{bare_file}
use Rattle.bi_legacy.specs.KnownImages.{kernel_file, kernel_image}
use Rattle.bi_legacy.specs.Text.{legacy_text}
use Rattle.bi_norm.specs.KnownComparisons.{file_without_magic, no_magic}
use Rattle.bi_edit.specs.declared.edit.Edit.{Edit}
use Rattle.bi_edit.specs.declared.edit.Edit.TheVariants.{RemoveNode, SetTime}
use Rattle.bi_edit.specs.declared.edit_error.EditError.{EditError}
use Rattle.bi_edit.specs.declared.edit_error.EditError.TheVariants as error
use Rattle.bi_edit.specs.declared.edit_notes.EditNotes.{EditNotes}
use Rattle.bi_edit.specs.declared.form_choice.FormChoice.{FormChoice}
use Rattle.bi_edit.specs.declared.form_choice.FormChoice.TheVariants.{Given}
use Rattle.bi_edit.specs.EditedFiles.{edit_promise}
use Rattle.bi_edit.specs.KnownEditNotes.{notes_about}
use Rattle.bi_edit.specs.Places.{image_path}

-- Small files with what editing them gives, or with their errors, by which a reader can judge the
-- definitions.

-- Editing the file gives this text and these notes, and no other text.
pub record IsOnlyEdited (edits : List Edit) (choice : FormChoice) (file text : List ℕ)
    (notes : EditNotes) : Type 0
  where
    pub is_output : (edit_promise edits choice widest).is_output notes file text
    pub is_text : (edit_promise edits choice widest).is_text file text
    pub only : (other : List ℕ)
        → (edit_promise edits choice widest).is_text file other → other ≡ text

-- A new time of a legacy image is in its header. The smallest file is left where the only image is
-- removed.
pub record EditedTextsAreKnown : Type 0 where
  pub legacy : (choice : FormChoice)
      → IsOnlyEdited (SetTime 9 ∷ []) choice kernel_file
      (legacy_text (record kernel_image { time = 9 })) (notes_about None 0 0)
  pub tree :
      IsOnlyEdited (RemoveNode (image_path (codes "a")) ∷ []) (Given Embedded) bare_file
      smallest_text (notes_about None 0 0)

-- Editing the file fails with these errors, and with no others.
abbrev pub FailsEditing : List Edit → FormChoice → List ℕ → (EditError → Type 0) → Type 0
FailsEditing edits choice file IsOne =
    (failure : EditError)
    → (edit_promise edits choice widest).has_error file failure ↔ IsOne failure

-- A file that is refused has this error alone. A legacy image has no nodes. Of two edits the second
-- is made first, and finds nothing. An error of reading or of memory is not changed.
pub record EditFileErrorsAreKnown : Type 0 where
  pub no_magic : (edits : List Edit) (choice : FormChoice)
      → FailsEditing edits choice file_without_magic
      (λ failure. failure ≡ error.Failed (Refused no_magic))
  pub legacy : (choice : FormChoice)
      → FailsEditing (RemoveNode (image_path (codes "a")) ∷ []) choice kernel_file
      (λ failure. (failure ≡ error.WrongKind) ⊎ (failure ≡ error.Failed OutOfMemory))
  pub tree : (form : Form)
      → (edit_promise (SetTime 5 ∷ RemoveNode (image_path (codes "c")) ∷ []) (Given form)
      widest).has_error bare_file (error.FindsNothing 1)
  pub only_index : (form : Form) (index : ℕ)
      → (edit_promise (SetTime 5 ∷ RemoveNode (image_path (codes "c")) ∷ []) (Given form)
      widest).has_error bare_file (error.FindsNothing index)
      → index ≡ 1
  pub is_same : (edits : List Edit) (choice : FormChoice) (cause : Error)
      → (edit_promise edits choice widest).wraps cause ≡ error.Failed cause
