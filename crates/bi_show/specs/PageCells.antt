use Rattle.std.specs.Prelude.{◌≡◌, ℕ, ◌-◌, ◌==◌, ◌&&◌, ◌||◌, Bool, false, not, nat_eq, nat_le, List}
use Rattle.std.specs.Prelude.{[], ◌∷◌, ◌++◌, Option, None, Some, codes, bytes_eq, length, map, take}
use Rattle.std.specs.Prelude.{MatchBool, if◌then◌else◌}
use Rattle.std.specs.Fmt.{decimal}
use Rattle.std.specs.List.{ends_with, join_with_byte, list_all}
use Rattle.bi_base.specs.Cells.{u32_at}
use Rattle.bi_fit.specs.Judgement.{listed_names}
use Rattle.bi_common.specs.HashedImages.{FoundHash}
use Rattle.bi_common.specs.Shown.{shown_or_none, is_plain, shown_text}
use Rattle.bi_common.specs.Json.{string_text}
use Rattle.bi_common.specs.ValueTexts.{is_quotable, hexadecimal_digits, value_words}
use Rattle.bi_report.specs.FoundConcerns.{is_skipped}
use Rattle.bi_report.specs.Reports.{verdict_word}
use Rattle.bi_show.specs.Dates.{IsTimeText}
use Rattle.bi_show.specs.declared.show.cells.CellForm.{CellForm}
use Rattle.bi_show.specs.declared.show.cells.CellForm.TheVariants.{Value, Address, Names}

-- The cells of a page (profile of this project).

-- The cell of a value that is not there.
abbrev pub missing_cell : List ℕ
missing_cell = codes "-"

-- The cell of a number, if there is one.
abbrev pub number_cell : Option ℕ → List ℕ
number_cell None = missing_cell
number_cell (Some number) = decimal number

-- The cell of a number of bytes.
abbrev pub size_cell : ℕ → List ℕ
size_cell size = decimal size ++ codes " bytes"

-- ---- texts and values

-- Whether a byte is an ASCII letter.
abbrev pub is_letter : ℕ → Bool
is_letter byte = (nat_le 65 byte && nat_le byte 90) || (nat_le 97 byte && nat_le byte 122)

-- Whether a text is a word, which needs no quotes: it begins with a letter, and a printed name has
-- each of its bytes unchanged.
abbrev pub is_word : List ℕ → Bool
is_word [] = false
is_word (byte ∷ later) = is_letter byte && list_all is_plain later

-- The cell of a text: in quotes if it is printable and not a word. If not, it is printed like a
-- name.
abbrev pub text_cell : List ℕ → List ℕ
text_cell text =
    if not (is_word text) && is_quotable text then string_text text else shown_text text

-- Whether a value is a word and a zero.
abbrev pub is_word_value : List ℕ → Bool
is_word_value value =
    ends_with nat_eq value (0 ∷ []) && is_word (take (length value - 1) value)

-- The cell of a value: a word without its zero, two quotes if it is empty, or else as a description
-- prints it.
abbrev pub value_cell : List ℕ → List ℕ
value_cell value =
    if bytes_eq value [] then codes "\"\"" else
    if is_word_value value then shown_text (take (length value - 1) value) else
    join_with_byte 32 (value_words value)

-- The cell of a value that is an address of one or two cells, or of any other value.
abbrev pub address_cell : List ℕ → List ℕ
address_cell value =
    if length value == 4 || length value == 8 then codes "0x" ++ hexadecimal_digits value else
    value_cell value

-- The cell of a value that lists names, or of any other value.
abbrev pub names_cell : List ℕ → List ℕ
names_cell value =
    if ends_with nat_eq value (0 ∷ []) then
    join_with_byte 32 (map shown_text (listed_names value)) else value_cell value

-- The cell of the value of a property, by what the value is, if the property is there.
abbrev pub property_cell : CellForm → Option (List ℕ) → List ℕ
property_cell form None = missing_cell
property_cell Value (Some value) = value_cell value
property_cell Address (Some value) = address_cell value
property_cell Names (Some value) = names_cell value

-- The cell is that of a time: of the number in one cell, or of any other value, if it is there.
abbrev pub IsTimeCell : Option (List ℕ) → (cell : List ℕ) → Type 0
IsTimeCell None cell = cell ≡ missing_cell
IsTimeCell (Some value) cell =
    MatchBool (length value == 4) (IsTimeText (u32_at value 0) cell)
    (cell ≡ value_cell value)

-- ---- verdicts

-- The algorithm of a hash node and the verdict on it, as `sha256:good`. A mark follows if U-Boot
-- skips the node.
abbrev pub hash_word : FoundHash → List ℕ
hash_word hash =
    shown_or_none hash.checked.algo
    ++ 58 ∷ (verdict_word hash.checked.verdict
    ++ (if is_skipped hash.node then codes ":skipped" else []))

-- The cell of the hash nodes of an image.
abbrev pub hashes_cell : List FoundHash → List ℕ
hashes_cell hashes =
    if length hashes == 0 then missing_cell else join_with_byte 32 (map hash_word hashes)
