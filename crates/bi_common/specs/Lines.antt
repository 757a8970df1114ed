use Rattle.std.specs.Prelude.{◌≡◌, ℕ, true, List, [], ◌∷◌, codes, bytes_eq, flat_map, ⊤}
use Rattle.std.specs.Prelude.{if◌then◌else◌, Option, None, Some}
use Rattle.std.specs.Fmt.{decimal}
use Rattle.std.specs.List.{AllByRecursion, join_with_byte, list_all}
use Rattle.bi_base.specs.Cells.{AreBytes}
use Rattle.bi_common.specs.Shown.{Words, hexadecimal, hexadecimal_64, line, path, shown_text}
use Rattle.bi_common.specs.ValueTexts.{hexadecimal_digits, is_printable, value_words}

-- Lines, as lists of words that are values.

-- A word, or the words for the value of a property.
pub data Field : Type 0 where
  -- This text.
  Text : List ℕ → Field
  -- A name, as it is printed.
  Name : List ℕ → Field
  -- A number in decimal digits.
  Decimal : ℕ → Field
  -- A number of 32 bits in hexadecimal digits.
  Hexadecimal : ℕ → Field
  -- A number of 64 bits in hexadecimal digits.
  Hexadecimal64 : ℕ → Field
  -- Two hexadecimal digits for each byte.
  Digits : List ℕ → Field
  -- The path of a node, by the names of the nodes on the way to it.
  Path : List (List ℕ) → Field
  -- The words for a value.
  Value : List ℕ → Field

-- A word as it is printed. The words for a value have a space between each two.
abbrev pub field_text : Field → List ℕ
field_text (Text text) = text
field_text (Name name) = shown_text name
field_text (Decimal number) = decimal number
field_text (Hexadecimal number) = hexadecimal number
field_text (Hexadecimal64 number) = hexadecimal_64 number
field_text (Digits bytes) = hexadecimal_digits bytes
field_text (Path names) = path names
field_text (Value value) = join_with_byte 32 (value_words value)

-- The words as they are printed: an empty value has none.
abbrev pub field_texts : Field → Words
field_texts (Value value) = value_words value
field_texts word = field_text word ∷ []

-- A word that can be printed in ASCII: a text is printable, and names and values are bytes.
abbrev pub CanPrint : Field → Type 0
CanPrint (Text text) = list_all is_printable text ≡ true
CanPrint (Name name) = AreBytes name
CanPrint (Decimal number) = ⊤
CanPrint (Hexadecimal number) = ⊤
CanPrint (Hexadecimal64 number) = ⊤
CanPrint (Digits bytes) = AreBytes bytes
CanPrint (Path names) = AllByRecursion AreBytes names
CanPrint (Value value) = AreBytes value

-- The word for a name that may not be there: `-` if it is not.
abbrev pub name_or_dash : Option (List ℕ) → Field
name_or_dash None = Text (codes "-")
name_or_dash (Some name) = Name name

-- The word for the digits of a value: `-` if it is empty or not there.
abbrev pub digits_or_dash : Option (List ℕ) → Field
digits_or_dash None = Text (codes "-")
digits_or_dash (Some value) = if bytes_eq value [] then Text (codes "-") else Digits value

-- A line.
abbrev pub Line : Type 0
Line = List Field

-- Its text: the words, with a space between each two, and a newline.
abbrev pub line_text : Line → List ℕ
line_text words = line (flat_map field_texts words)

-- The text of lines.
abbrev pub text_of_lines : List Line → List ℕ
text_of_lines lines = flat_map line_text lines
