use Rattle.std.specs.Prelude.{◌≡◌, ℕ, List, [], ◌∷◌, codes}
use Rattle.std.specs.List.{Contains}
use Rattle.bi_base.specs.Limits.{Limits}
use Rattle.bi_norm.specs.Meaning.{Meaning, Means}
use Rattle.bi_common.specs.Lines.{Field, Line, Text, Name, Path}
use Rattle.bi_describe.specs.Descriptions.{description_lines}
use Rattle.bi_values.specs.ValueNames.{ValueNameModel, PropertyAt, FieldAt, field_word}
use Rattle.bi_values.specs.ValueResults.{ValueBytes, value_result, word_line}
use Rattle.bi_values.specs.declared.value_form.ValueForm.TheVariants.{Shown}

-- What single values and descriptions have in common (profile of this project).

-- The line of a value in a description: of a property after the path of its node and its name, of a
-- field after its key.
abbrev pub line_of_value : ValueNameModel → Field → Line
line_of_value (PropertyAt names name) word =
    Text (codes "property") ∷ Path names ∷ Name name ∷ word ∷ []
line_of_value (FieldAt field) word = Text (field_word field) ∷ word ∷ []

-- The bytes are a line of what follows the path and the name, or the key, in a line of the
-- description of this meaning.
pub record IsDescribedValue (meaning : Meaning) (name : ValueNameModel) (bytes : List ℕ) : Type 0
  where
    pub word : Field
    pub bytes_are : bytes ≡ word_line word
    pub is_described : Contains (description_lines meaning) (line_of_value name word)

-- The bytes of each value of a file, without another form, are such a line.
abbrev pub ShownValuesAreDescribed : Type 0
ShownValuesAreDescribed =
    (limits : Limits) (file : List ℕ) (meaning : Meaning) (name : ValueNameModel) (bytes : List ℕ)
    → Means limits file meaning → value_result Shown meaning name ≡ ValueBytes bytes
    → IsDescribedValue meaning name bytes
