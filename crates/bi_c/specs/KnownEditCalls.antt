use Rattle.std.specs.Prelude.{◌≡◌, ℕ, List, [], ◌∷◌, Vec, Some, None, codes}
use Rattle.std.specs.Borrow.{Bor}
use Rattle.std.specs.declared.alloc.Global.{Global}
use Rattle.bi_blob.specs.KnownTexts.{smallest_text}
use Rattle.bi_edit.specs.declared.edit.Edit.{Edit}
use Rattle.bi_edit.specs.declared.edit.Edit.TheVariants.{SetProperty, SetField, SetPayload, SetTime}
use Rattle.bi_edit.specs.declared.edit.Edit.TheVariants.{SetDigests}
use Rattle.bi_edit.specs.declared.edit.FieldValue.TheVariants as field
use Rattle.bi_edit.specs.declared.edit_error.EditError.TheVariants as error
use Rattle.bi_edit.specs.declared.form_choice.FormChoice.TheVariants as choice
use Rattle.bi_edit.specs.EditWords.{IsChildWord, IsRemovalWord, IsSettingWord}
use Rattle.bi_edit.specs.Places.{PropertyPlaceModel}
use Rattle.bi_fit.specs.declared.form.Form.TheVariants.{External}
use Rattle.bi_fit.specs.KnownKept.{kept}
use Rattle.bi_legacy.specs.KnownImages.{multi_file, multi_image}
use Rattle.bi_legacy.specs.Text.{legacy_text}
use Rattle.bi_c.specs.EditCalls.{AreEditNumbers, HasEditElements, IsEditCallFailure, IsEditOf}
use Rattle.bi_c.specs.EditCalls.{IsEditText, edit_note_numbers, failure_of_edit_error}
use Rattle.bi_c.specs.EditCalls.{number_of_choice}
use Rattle.bi_c.specs.KnownElements.{region_at_offset}
use Rattle.bi_c.specs.declared.edits.EditElement.{EditElement}
use Rattle.bi_c.specs.declared.edits.EditNoteNumbers.{EditNoteNumbers}
use Rattle.bi_c.specs.declared.argument.Argument.TheVariants as argument
use Rattle.bi_c.specs.declared.failure.Failure.TheVariants.{WrongArgument, NotFound}

-- What elements of edits are for, and what the calls that edit return for small files, by which a
-- reader can judge the definitions. The limits are the largest ones.

-- An element without a word or a payload, and one with a word of this size at this offset.
abbrev pub number_element : (kind number : ℕ) → EditElement
number_element kind number = record {
  word = region_at_offset 0 0;
  payload = region_at_offset 0 0;
  kind = kind;
  number = number;
}

abbrev pub word_element : (kind offset size : ℕ) → EditElement
word_element kind offset size =
    record (number_element kind 0) { word = region_at_offset offset size }

-- Elements are for edits by their kinds. The words are those of the program.
pub record EditElementsAreKnown : Type 0 where
  pub removal : (edit : Edit) → IsRemovalWord (codes "/images/a") edit
      → IsEditOf (codes "x/images/a") (word_element 0 1 9) edit
  pub setting : (place : PropertyPlaceModel) (value : Vec ℕ Global)
      → IsSettingWord (codes "/ x 0x02") place value.items
      → IsEditOf (codes "/ x 0x02") (word_element 1 0 8) (SetProperty place value)
  pub payload : (image : List ℕ) (payload : Bor (List ℕ)) → IsChildWord (codes "a") image
      → payload.now ≡ codes "bc"
      → IsEditOf (codes "abcd")
      (record (word_element 2 0 1) { payload = region_at_offset 1 2 }) (SetPayload image payload)
  pub time : IsEditOf [] (number_element 3 5) (SetTime 5)
  pub digests : IsEditOf [] (number_element 4 0) SetDigests
  pub name : (name : Vec ℕ Global) → name.items ≡ codes "b c"
      → IsEditOf (codes "ab cd") (word_element 5 1 3) (SetField (field.Name name))
  pub load : IsEditOf [] (number_element 6 7) (SetField (field.Load 7))
  pub entry : IsEditOf [] (number_element 7 7) (SetField (field.Entry 7))
  pub os : IsEditOf [] (number_element 8 5) (SetField (field.Os 5))
  pub arch : IsEditOf [] (number_element 9 2) (SetField (field.Arch 2))
  pub compression : IsEditOf [] (number_element 10 1) (SetField (field.Compression 1))
  pub no_time_field : ¬ (IsEditOf [] (number_element 3 5) (SetField (field.Time 5)))

-- The number 2 keeps the form. A kind may be 10 and not 11, a code 255 and not 256, and each region
-- must be inside the input. An empty word is for no removal, whatever the file is, and the element
-- before it is for an edit.
pub record EditArgumentsAreKnown : Type 0 where
  pub keep : number_of_choice choice.Keep ≡ 2
  pub external : number_of_choice (choice.Given External) ≡ 1
  pub elements : HasEditElements 0x7fffffff 64 2 (codes "x")
      (number_element 10 255 ∷ word_element 5 1 0 ∷ number_element 3 256 ∷ [])
  pub other_kind : (file : List ℕ)
      → IsEditCallFailure 0x7fffffff 64 0 [] (number_element 10 1 ∷ number_element 11 0 ∷ []) file
      (WrongArgument argument.Edits 1)
  pub large_code : (file : List ℕ)
      → IsEditCallFailure 0x7fffffff 64 0 [] (number_element 8 256 ∷ []) file
      (WrongArgument argument.Edits 0)
  pub outside : (file : List ℕ)
      → IsEditCallFailure 0x7fffffff 64 0 (codes "x") (word_element 3 1 1 ∷ []) file
      (WrongArgument argument.Edits 0)
  pub bad_word : (file : List ℕ)
      → IsEditCallFailure 0x7fffffff 64 0 []
      (number_element 3 5 ∷ number_element 1 0 ∷ number_element 1 0 ∷ []) file (NotFound 17 1)

-- The numbers if there is nothing to say.
abbrev pub no_numbers : EditNoteNumbers
no_numbers = record { signatures = 0; lost_positions = 0; inside = 0; lost_alignment = 0 }

-- A legacy image with another time. There is nothing to say about it. The field of a legacy image
-- is of another kind than a FIT.
pub record EditCallsAreKnown : Type 0 where
  pub time : (text : List ℕ) (value : ℕ)
      → IsEditText 0x7fffffff 64 2 [] (number_element 3 5 ∷ []) multi_file text value
      → (text ≡ legacy_text (record multi_image { time = 5 })) × (value ≡ 0)
  pub numbers : (form : ℕ) (numbers : EditNoteNumbers)
      → AreEditNumbers 0x7fffffff 64 form [] (number_element 3 5 ∷ []) multi_file numbers
      → numbers ≡ no_numbers
  pub notes : edit_note_numbers (record { kept = kept (Some 64) 2; inside = 3 })
      ≡ record { signatures = 0; lost_positions = 2; inside = 3; lost_alignment = 64 }
  pub no_notes : edit_note_numbers (record { kept = kept None 0; inside = 0 }) ≡ no_numbers
  pub field_of_tree : IsEditCallFailure 0x7fffffff 64 0 [] (number_element 6 7 ∷ []) smallest_text
      (NotFound 1 0)
  pub nothing_found : failure_of_edit_error (error.FindsNothing 3) ≡ NotFound 18 3
