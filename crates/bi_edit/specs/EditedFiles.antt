use Rattle.std.specs.Prelude.{◌≡◌, ◌⊎◌, ℕ, List}
use Rattle.std.proofs.Common.{ap, inl, inr}
use Rattle.bi_base.specs.declared.fault.Error.{Error}
use Rattle.bi_base.specs.declared.fault.Error.TheVariants.{OutOfMemory, ReadFailed, WriteFailed}
use Rattle.bi_base.specs.Commands.{CommandPromise, PromiseLaws}
use Rattle.bi_base.specs.Limits.{Limits}
use Rattle.bi_fit.specs.declared.form.Form.{Form}
use Rattle.bi_norm.specs.Comparing.{MeansOnly}
use Rattle.bi_norm.specs.Meaning.{Meaning, Means, normal_text}
use Rattle.bi_norm.specs.Reading.{IsBootImageReadError}
use Rattle.bi_edit.specs.declared.edit.Edit.{Edit}
use Rattle.bi_edit.specs.declared.edit_error.EditError.{EditError}
use Rattle.bi_edit.specs.declared.edit_error.EditError.TheVariants as error
use Rattle.bi_edit.specs.declared.edit_notes.EditNotes.{EditNotes}
use Rattle.bi_edit.specs.declared.form_choice.FormChoice.{FormChoice}
use Rattle.bi_edit.specs.EditNotes.{AreEditNotes}
use Rattle.bi_edit.specs.EditRefusals.{CanBeMade, IsEditError, NeedsTooMuch}
use Rattle.bi_edit.specs.Edits.{meaning_after}
use Rattle.bi_edit.specs.FormChoices.{IsChosenForm}

-- What editing a boot image promises (profile of this project).

-- The text is that of the edited file.
pub record IsEdited (edits : List Edit) (choice : FormChoice) (limits : Limits)
    (file text : List ℕ) : Type 0 where
  -- The file means this, and nothing else.
  pub meaning : Meaning
  pub means : MeansOnly limits file meaning
  -- Each edit is of this kind of boot image, is not too deep, and found what it is of. If digests
  -- were computed, the payloads after the edits are within the payload bound.
  pub can : CanBeMade limits meaning edits
  pub within : ¬ (NeedsTooMuch limits meaning edits)
  -- The text is the normal text of the edited meaning in the form of the choice, and means it
  -- within the same limits.
  pub form : Form
  pub is_form : IsChosenForm choice file meaning form
  pub is_text : text ≡ normal_text form (meaning_after edits meaning)
  pub text_means : Means limits text (meaning_after edits meaning)

-- The text is that of the edited file, and this is what a user should know.
pub record IsEditOutput (edits : List Edit) (choice : FormChoice) (limits : Limits)
    (notes : EditNotes) (file text : List ℕ) : Type 0 where
  pub is : IsEdited edits choice limits file text
  pub are_notes : AreEditNotes choice file is.meaning (meaning_after edits is.meaning) notes

-- The file means something, and edits of that have this error.
pub record HasEditError (edits : List Edit) (choice : FormChoice) (limits : Limits)
    (file : List ℕ) (error : EditError) : Type 0 where
  pub meaning : Meaning
  pub means : MeansOnly limits file meaning
  pub form : Form
  pub is_form : IsChosenForm choice file meaning form
  pub has_error : IsEditError limits form meaning edits error

-- The error that editing a file in memory can have: one of reading it, or one of the edits.
abbrev pub IsEditFileError : List Edit → FormChoice → Limits → List ℕ → EditError → Type 0
IsEditFileError edits choice limits file (error.Failed failure) =
    IsBootImageReadError limits file failure
    ⊎ HasEditError edits choice limits file (error.Failed failure)
IsEditFileError edits choice limits file error = HasEditError edits choice limits file error

-- What editing promises as a command.
abbrev pub edit_promise : List Edit → FormChoice → Limits → CommandPromise EditNotes EditError
edit_promise edits choice limits = record {
  is_output = λ notes file text. IsEditOutput edits choice limits notes file text;
  is_text = IsEdited edits choice limits;
  has_error = IsEditFileError edits choice limits;
  wraps = λ cause. error.Failed cause;
}

-- The error that an error of editing has inside.
abbrev error_in_edit_error : EditError → Error
error_in_edit_error (error.Failed cause) = cause
error_in_edit_error other = OutOfMemory

-- Reading a file in memory and editing it never fail as a stream does.
no_read_failed : (edits : List Edit) (choice : FormChoice) (limits : Limits) (file : List ℕ)
    → ¬ IsEditFileError edits choice limits file (error.Failed ReadFailed)
no_read_failed edits choice limits file (inl is) = is
no_read_failed edits choice limits file (inr is) = is.has_error

no_write_failed : (edits : List Edit) (choice : FormChoice) (limits : Limits) (file : List ℕ)
    → ¬ IsEditFileError edits choice limits file (error.Failed WriteFailed)
no_write_failed edits choice limits file (inl is) = is
no_write_failed edits choice limits file (inr is) = is.has_error

pub edit_laws : (edits : List Edit) (choice : FormChoice) (limits : Limits)
    → PromiseLaws (edit_promise edits choice limits)
edit_laws edits choice limits = record {
  is_text = λ notes file text is. is.is;
  wraps_once = λ a b same. ap error_in_edit_error same;
  no_read_error = no_read_failed edits choice limits;
  no_write_error = no_write_failed edits choice limits;
}
