use Rattle.std.specs.Prelude.{ℕ, ◌^◌, ◌<◌, ◌≤◌, ◌≡◌, ⊤, List, Some, slice_get, take, unwrap_or}
use Rattle.std.specs.Prelude.{Option}
use Rattle.std.specs.List.{AllByRecursion, AllZip}
use Rattle.bi_base.specs.declared.fault.Error.TheVariants as cause
use Rattle.bi_base.specs.Limits.{IsInRange}
use Rattle.bi_edit.specs.declared.edit.Edit.{Edit}
use Rattle.bi_edit.specs.declared.edit.Edit.TheVariants.{RemoveNode, RemoveProperty, SetProperty}
use Rattle.bi_edit.specs.declared.edit.Edit.TheVariants.{SetField, SetPayload, SetTime, SetDigests}
use Rattle.bi_edit.specs.declared.edit.FieldValue.{FieldValue}
use Rattle.bi_edit.specs.declared.edit.FieldValue.TheVariants as field
use Rattle.bi_edit.specs.declared.edit_error.EditError.{EditError}
use Rattle.bi_edit.specs.declared.edit_error.EditError.TheVariants as error
use Rattle.bi_edit.specs.declared.edit_notes.EditNotes.{EditNotes}
use Rattle.bi_edit.specs.declared.form_choice.FormChoice.{FormChoice}
use Rattle.bi_edit.specs.declared.form_choice.FormChoice.TheVariants as choice
use Rattle.bi_edit.specs.EditWords.{IsChildWord, IsRemovalWord, IsSettingWord}
use Rattle.bi_edit.specs.EditedFiles.{IsEditFileError, IsEditOutput}
use Rattle.bi_c.specs.Arguments.{bounds, number_of_form}
use Rattle.bi_c.specs.PieceBuilding.{IsPieceInside, bytes_of_piece}
use Rattle.bi_c.specs.declared.edits.EditElement.{EditElement}
use Rattle.bi_c.specs.declared.edits.EditNoteNumbers.{EditNoteNumbers}
use Rattle.bi_c.specs.Checks.{ArrayCheck, IsWrong, LimitsCheck, NextCheck}
use Rattle.bi_c.specs.declared.argument.Argument.{Argument}
use Rattle.bi_c.specs.declared.argument.Argument.TheVariants as argument
use Rattle.bi_c.specs.declared.failure.Failure.{Failure}
use Rattle.bi_c.specs.declared.failure.Failure.TheVariants.{WrongArgument, Refused, OutOfMemory}
use Rattle.bi_c.specs.declared.failure.Failure.TheVariants.{NotFound}

-- What the calls from C that edit a file return (profile of this project).

-- ---- arguments

-- The number of a choice of the form: that of the form, or 2 to keep payloads where the file has
-- them.
abbrev pub number_of_choice : FormChoice → ℕ
number_of_choice (choice.Given form) = number_of_form form
number_of_choice choice.Keep = 2

-- An element of an edit: its kind is one of 11, its regions are inside the input, and a code, which
-- the last three kinds have, is a byte.
pub record IsEditElement (input : List ℕ) (element : EditElement) : Type 0 where
  pub is_kind : element.kind < 11
  pub word : IsPieceInside input element.word
  pub payload : IsPieceInside input element.payload
  pub code : 8 ≤ element.kind → element.number < 2 ^ 8

-- The limits are in their ranges, and the number is that of a choice of the form.
pub record HasChoice (limit depth form : ℕ) : Type 0 where
  pub limits : IsInRange limit depth
  pub choice : FormChoice
  pub is_choice : number_of_choice choice ≡ form

-- The limits are in their ranges, the number is that of a choice of the form, and all elements are
-- those of edits.
pub record HasEditElements (limit depth form : ℕ) (input : List ℕ) (elements : List EditElement)
    : Type 0
  where
    pub limits : IsInRange limit depth
    pub choice : FormChoice
    pub is_choice : number_of_choice choice ≡ form
    pub are_elements : AllByRecursion (IsEditElement input) elements

-- The limits, the choice of the form and then the elements are checked.
abbrev pub EditsCheck : (limit depth form : ℕ) → (input : List ℕ) → List EditElement
    → Option (Argument × ℕ) → Type 0
EditsCheck limit depth form input elements =
    ArrayCheck (NextCheck (LimitsCheck limit depth) argument.Form (HasChoice limit depth form))
    argument.Edits (IsEditElement input) elements

-- ---- the edit that an element is for

-- The kind of an element for a field of a legacy header. The time has one kind for both images.
abbrev pub kind_of_field : FieldValue → ℕ
kind_of_field (field.Time time) = 3
kind_of_field (field.Name name) = 5
kind_of_field (field.Load load) = 6
kind_of_field (field.Entry entry) = 7
kind_of_field (field.Os code) = 8
kind_of_field (field.Arch code) = 9
kind_of_field (field.Compression code) = 10

-- The kind of an element for an edit.
abbrev pub kind_of_edit : Edit → ℕ
kind_of_edit (RemoveNode path) = 0
kind_of_edit (RemoveProperty place) = 0
kind_of_edit (SetProperty place value) = 1
kind_of_edit (SetPayload image payload) = 2
kind_of_edit (SetTime time) = 3
kind_of_edit SetDigests = 4
kind_of_edit (SetField value) = kind_of_field value

-- The value of a field is this name or this number.
abbrev pub IsFieldOfElement : (name : List ℕ) → (number : ℕ) → FieldValue → Type 0
IsFieldOfElement name number (field.Time time) = ⊥
IsFieldOfElement name number (field.Name given) = given.items ≡ name
IsFieldOfElement name number (field.Load load) = load ≡ number
IsFieldOfElement name number (field.Entry entry) = entry ≡ number
IsFieldOfElement name number (field.Os code) = code ≡ number
IsFieldOfElement name number (field.Arch code) = code ≡ number
IsFieldOfElement name number (field.Compression code) = code ≡ number

-- The edit is a new value of a property, for this word.
abbrev pub IsSetting : (word : List ℕ) → Edit → Type 0
IsSetting word (SetProperty place value) = IsSettingWord word place value.items
IsSetting word edit = ⊥

-- The edit gives the image or part that is printed as this word these bytes.
abbrev pub GivesPayload : (word bytes : List ℕ) → Edit → Type 0
GivesPayload word bytes (SetPayload image payload) =
    IsChildWord word image × (payload.now ≡ bytes)
GivesPayload word bytes edit = ⊥

-- The edit has this word, these bytes or this number.
abbrev pub HasValues : (word bytes : List ℕ) → (number : ℕ) → Edit → Type 0
HasValues word bytes number (SetTime time) = time ≡ number
HasValues word bytes number SetDigests = ⊤
HasValues word bytes number (SetField value) = IsFieldOfElement word number value
HasValues word bytes number (SetProperty place value) = IsSetting word (SetProperty place value)
HasValues word bytes number (SetPayload image payload) =
    GivesPayload word bytes (SetPayload image payload)
HasValues word bytes number removal = IsRemovalWord word removal

-- The edit that an element is for.
pub record IsEditOf (input : List ℕ) (element : EditElement) (edit : Edit) : Type 0 where
  pub is_kind : element.kind ≡ kind_of_edit edit
  pub has_values : HasValues (bytes_of_piece input element.word)
      (bytes_of_piece input element.payload) element.number edit

-- The element is for no edit, since its word is for none.
abbrev pub IsBadElement : (input : List ℕ) → EditElement → Type 0
IsBadElement input element = (edit : Edit) → ¬ (IsEditOf input element edit)

-- The element with this index is the first that is for no edit.
pub record IsFirstBadElement (input : List ℕ) (elements : List EditElement) (index : ℕ) : Type 0
  where
    pub element : EditElement
    pub there : slice_get elements index ≡ Some element
    pub before : List Edit
    pub are_before : AllZip (IsEditOf input) (take index elements) before
    pub is_bad : IsBadElement input element

-- Why elements have no edits.
abbrev pub AreEditsFailure : (input : List ℕ) → List EditElement → Failure → Type 0
AreEditsFailure input elements OutOfMemory = ⊤
AreEditsFailure input elements (NotFound reason index) =
    (reason ≡ 17) × IsFirstBadElement input elements index
AreEditsFailure input elements other = ⊥

-- ---- what the calls return

-- The text and the notes are those of the file after the edits that the elements are for.
pub record IsEditedFile (limit depth form : ℕ) (input : List ℕ) (elements : List EditElement)
    (file text : List ℕ) (notes : EditNotes) : Type 0
  where
    pub arguments : HasEditElements limit depth form input elements
    pub edits : List Edit
    pub are_edits : AllZip (IsEditOf input) elements edits
    pub is : IsEditOutput edits arguments.choice (bounds limit depth) notes file text

-- The text is that of the file after the edits, and the number is that of its signature nodes.
pub record IsEditText (limit depth form : ℕ) (input : List ℕ) (elements : List EditElement)
    (file text : List ℕ) (value : ℕ) : Type 0
  where
    pub notes : EditNotes
    pub is : IsEditedFile limit depth form input elements file text notes
    pub is_number : value ≡ notes.kept.signatures

-- The numbers in the notes, or 0 if there is no note.
abbrev pub edit_note_numbers : EditNotes → EditNoteNumbers
edit_note_numbers notes = record {
  signatures = notes.kept.signatures;
  lost_positions = notes.kept.lost_positions;
  inside = notes.inside;
  lost_alignment = unwrap_or notes.kept.lost_alignment 0;
}

-- The numbers are those of the notes on the file after the edits.
pub record AreEditNumbers (limit depth form : ℕ) (input : List ℕ) (elements : List EditElement)
    (file : List ℕ) (numbers : EditNoteNumbers) : Type 0
  where
    pub text : List ℕ
    pub notes : EditNotes
    pub is : IsEditedFile limit depth form input elements file text notes
    pub are_numbers : numbers ≡ edit_note_numbers notes

-- The failure for an error of editing. It has neither a reader nor a writer.
abbrev pub failure_of_edit_error : EditError → Failure
failure_of_edit_error error.WrongKind = NotFound 1 0
failure_of_edit_error (error.FindsNothing index) = NotFound 18 index
failure_of_edit_error (error.Failed (cause.Refused fault)) = Refused 1 fault
failure_of_edit_error (error.Failed other) = OutOfMemory

-- The edits that the elements are for have an error that gives this failure.
pub record IsRefusedEdit (limit depth form : ℕ) (input : List ℕ) (elements : List EditElement)
    (file : List ℕ) (failure : Failure) : Type 0
  where
    pub arguments : HasEditElements limit depth form input elements
    pub edits : List Edit
    pub are_edits : AllZip (IsEditOf input) elements edits
    pub cause : EditError
    pub is_failure : failure ≡ failure_of_edit_error cause
    pub has_error : IsEditFileError edits arguments.choice (bounds limit depth) file cause

-- Nothing is found: the word of an edit is for none, or editing fails.
pub data IsNothingEdited (limit depth form : ℕ) (input : List ℕ) (elements : List EditElement)
    (file : List ℕ) (reason index : ℕ) : Type 0 where
  OfWord : HasEditElements limit depth form input elements → reason ≡ 17
      → IsFirstBadElement input elements index
      → IsNothingEdited limit depth form input elements file reason index
  OfFile : IsRefusedEdit limit depth form input elements file (NotFound reason index)
      → IsNothingEdited limit depth form input elements file reason index

-- Why a file was not edited.
abbrev pub IsEditCallFailure : (limit depth form : ℕ) → (input : List ℕ) → List EditElement
    → (file : List ℕ) → Failure → Type 0
IsEditCallFailure limit depth form input elements file (WrongArgument found index) =
    IsWrong (EditsCheck limit depth form input elements) found index
IsEditCallFailure limit depth form input elements file (NotFound reason index) =
    IsNothingEdited limit depth form input elements file reason index
IsEditCallFailure limit depth form input elements file OutOfMemory =
    HasEditElements limit depth form input elements
IsEditCallFailure limit depth form input elements file (Refused number fault) =
    IsRefusedEdit limit depth form input elements file (Refused number fault)
