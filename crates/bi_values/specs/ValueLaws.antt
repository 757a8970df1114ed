use Rattle.std.specs.Prelude.{◌≡◌, ℕ, List, [], ◌∷◌, codes, map}
use Rattle.bi_base.specs.Limits.{Limits}
use Rattle.bi_legacy.specs.Meaning.{LegacyImage}
use Rattle.bi_norm.specs.Meaning.{Meaning, Means}
use Rattle.bi_common.specs.CommonLines.{header_lines}
use Rattle.bi_common.specs.Lines.{Line, Text}
use Rattle.bi_values.specs.Getting.{IsTextOfValues, LacksValue}
use Rattle.bi_values.specs.ValueNames.{ValueNameModel, field_word, header_fields}
use Rattle.bi_values.specs.ValueResults.{shown_field}
use Rattle.bi_values.specs.declared.value_name.HeaderField.{HeaderField}
use Rattle.bi_values.specs.declared.get_error.GetError.{GetError}
use Rattle.bi_values.specs.declared.value_form.ValueForm.{ValueForm}

-- Laws of getting values, which are the contracts of functions in `laws` (profile of this project).

-- What is got of two files that mean the same, with the same names and in the same form: one text;
-- or one error; and not a text of one of them and an error of the other.
pub record IsOneAnswer (form : ValueForm) (names : List ValueNameModel)
    (limits other_limits : Limits) (file other_file : List ℕ) : Type 0
  where
    pub text : (text other : List ℕ) → IsTextOfValues form names limits file text
        → IsTextOfValues form names other_limits other_file other → other ≡ text
    pub error : (error other : GetError) → LacksValue form names limits file error
        → LacksValue form names other_limits other_file other → other ≡ error
    pub not_both : (text : List ℕ) (error : GetError) → IsTextOfValues form names limits file text
        → ¬ (LacksValue form names other_limits other_file error)

-- So values depend on the meaning alone.
abbrev pub ValuesAreOfMeaning : Type 0
ValuesAreOfMeaning =
    (form : ValueForm) (names : List ValueNameModel) (limits other_limits : Limits)
    (file other_file : List ℕ) (meaning : Meaning)
    → Means limits file meaning → Means other_limits other_file meaning
    → IsOneAnswer form names limits other_limits file other_file

-- The line of a field in a listing and a description: its key, and its word.
abbrev pub field_line : LegacyImage → HeaderField → Line
field_line image field = Text (field_word field) ∷ shown_field field image ∷ []

-- The lines of a header are that of its kind, and those of its fields: the word for a field is what
-- follows the key in its line.
abbrev pub FieldsAreListed : Type 0
FieldsAreListed =
    (image : LegacyImage)
    → header_lines image
    ≡ (Text (codes "kind") ∷ Text (codes "legacy") ∷ []) ∷ map (field_line image) header_fields
