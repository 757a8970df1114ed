use Rattle.std.specs.Prelude.{ℕ, ◌==◌, false, List, [], ◌∷◌, ◌++◌, Option, None, Some, codes}
use Rattle.std.specs.Prelude.{length, map}
use Rattle.std.specs.Prelude.{if◌then◌else◌}
use Rattle.bi_base.specs.Cells.{cell, u32_at, u64_at}
use Rattle.bi_fit.specs.Judgement.{listed_names}
use Rattle.bi_legacy.specs.Codes.{name_of_code, os_names, arch_names, type_names}
use Rattle.bi_legacy.specs.Codes.{compression_names}
use Rattle.bi_legacy.specs.Meaning.{LegacyImage}
use Rattle.bi_norm.specs.Meaning.{Meaning, OfLegacy, OfFit}
use Rattle.bi_common.specs.CommonLines.{named_field}
use Rattle.bi_common.specs.Lines.{Field, Text, Decimal, Hexadecimal, Hexadecimal64, Value}
use Rattle.bi_common.specs.Lines.{Name as ShownName, text_of_lines}
use Rattle.bi_common.specs.Shown.{digits_of_byte}
use Rattle.bi_common.specs.ValueTexts.{are_quotable_texts}
use Rattle.bi_values.specs.FoundValues.{value_at}
use Rattle.bi_values.specs.ValueNames.{ValueNameModel, PropertyAt, FieldAt}
use Rattle.bi_values.specs.declared.value_form.ValueForm.{ValueForm}
use Rattle.bi_values.specs.declared.value_form.ValueForm.TheVariants as form
use Rattle.bi_values.specs.declared.value_name.HeaderField.{HeaderField}
use Rattle.bi_values.specs.declared.value_name.HeaderField.TheVariants as field

-- What `get` writes for a value of a boot image (profile of this project).

-- The bytes that are written for a value, or the first reason why there are none.
pub data ValueResult : Type 0 where
  OfOtherKind : ValueResult
  NoSuchProperty : ValueResult
  HasNoText : ValueResult
  HasNoNumber : ValueResult
  ValueBytes : (bytes : List ℕ) → ValueResult

-- A line of one word.
abbrev pub word_line : Field → List ℕ
word_line word = text_of_lines ((word ∷ []) ∷ [])

-- A line for each of these texts.
abbrev pub text_lines : List (List ℕ) → List ℕ
text_lines texts = text_of_lines (map (λ text. Text text ∷ []) texts)

-- ---- properties

-- The texts of a value, each of which a zero follows, if it is one or more texts.
abbrev pub texts_result : (value : List ℕ) → ValueResult
texts_result value =
    if are_quotable_texts value then ValueBytes (text_lines (listed_names value)) else HasNoText

-- A word, if there is a number.
abbrev pub number_result : Option Field → ValueResult
number_result None = HasNoNumber
number_result (Some word) = ValueBytes (word_line word)

-- The number of a value of four or eight bytes, the highest byte first.
abbrev pub number_of_value : (value : List ℕ) → Option Field
number_of_value value =
    if length value == 4 then Some (Hexadecimal (u32_at value 0)) else
    if length value == 8 then Some (Hexadecimal64 (u64_at value 0)) else None

-- The value of a property in a form.
abbrev pub result_of_value : ValueForm → (value : List ℕ) → ValueResult
result_of_value form.Shown value = ValueBytes (word_line (Value value))
result_of_value form.Text value = texts_result value
result_of_value form.Number value = number_result (number_of_value value)
result_of_value form.Raw value = ValueBytes value

-- The value of a property that may not be there.
abbrev pub result_of_property : ValueForm → Option (List ℕ) → ValueResult
result_of_property form None = NoSuchProperty
result_of_property form (Some value) = result_of_value form value

-- ---- fields of a legacy header

-- The word for a field in a listing.
abbrev pub shown_field : HeaderField → LegacyImage → Field
shown_field field.Name image = ShownName image.name
shown_field field.Time image = Decimal image.time
shown_field field.Load image = Hexadecimal image.load
shown_field field.Entry image = Hexadecimal image.entry
shown_field field.Os image = named_field (name_of_code os_names image.os) image.os
shown_field field.Arch image = named_field (name_of_code arch_names image.arch) image.arch
shown_field field.ImageType image =
    named_field (name_of_code type_names image.image_type) image.image_type
shown_field field.Compression image =
    named_field (name_of_code compression_names image.compression) image.compression

-- A code as `0x` and two hexadecimal digits.
abbrev pub code_number : (code : ℕ) → Field
code_number code = Text (codes "0x" ++ digits_of_byte false code)

-- The number of a field. The name is none.
abbrev pub number_of_field : HeaderField → LegacyImage → Option Field
number_of_field field.Name image = None
number_of_field field.Time image = Some (Hexadecimal image.time)
number_of_field field.Load image = Some (Hexadecimal image.load)
number_of_field field.Entry image = Some (Hexadecimal image.entry)
number_of_field field.Os image = Some (code_number image.os)
number_of_field field.Arch image = Some (code_number image.arch)
number_of_field field.ImageType image = Some (code_number image.image_type)
number_of_field field.Compression image = Some (code_number image.compression)

-- The bytes of a field in the header: of the name those before the first zero.
abbrev pub bytes_of_field : HeaderField → LegacyImage → List ℕ
bytes_of_field field.Name image = image.name
bytes_of_field field.Time image = cell image.time
bytes_of_field field.Load image = cell image.load
bytes_of_field field.Entry image = cell image.entry
bytes_of_field field.Os image = image.os ∷ []
bytes_of_field field.Arch image = image.arch ∷ []
bytes_of_field field.ImageType image = image.image_type ∷ []
bytes_of_field field.Compression image = image.compression ∷ []

-- A field in a form. As texts it is as it is shown.
abbrev pub result_of_field : ValueForm → HeaderField → LegacyImage → ValueResult
result_of_field form.Number field image = number_result (number_of_field field image)
result_of_field form.Raw field image = ValueBytes (bytes_of_field field image)
result_of_field form field image = ValueBytes (word_line (shown_field field image))

-- ---- both

-- A value of what a boot image means, in a form.
abbrev pub value_result : ValueForm → Meaning → ValueNameModel → ValueResult
value_result form (OfFit tree) (PropertyAt path name) =
    result_of_property form (value_at tree path name)
value_result form (OfLegacy image) (FieldAt field) = result_of_field form field image
value_result form meaning name = OfOtherKind

-- Several values of it.
abbrev pub value_results : ValueForm → Meaning → List ValueNameModel → List ValueResult
value_results form meaning names = map (value_result form meaning) names
