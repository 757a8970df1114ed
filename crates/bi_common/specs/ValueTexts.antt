use Rattle.std.specs.Prelude.{ℕ, ◌==◌, ◌&&◌, ◌||◌, Bool, not, nat_le, nat_eq, List, [], ◌∷◌, ◌++◌}
use Rattle.std.specs.Prelude.{codes, flat_map, map, bytes_eq, false, if◌then◌else◌}
use Rattle.std.specs.List.{ends_with, list_all}
use Rattle.bi_fit.specs.Judgement.{listed_names}
use Rattle.bi_common.specs.Shown.{digits_of_byte}

-- How the value of a property is printed in a description (profile of this project).

-- A printable ASCII character, the space included.
abbrev pub is_printable : ℕ → Bool
is_printable byte = nat_le 0x20 byte && nat_le byte 0x7e

-- A text that is printed in quotes: it has a byte, and each of its bytes is printable.
abbrev pub is_quotable : List ℕ → Bool
is_quotable text = not (bytes_eq text []) && list_all is_printable text

-- One or more such texts, each followed by a zero. The last byte is a zero, so `listed_names`
-- leaves nothing out.
abbrev pub are_quotable_texts : List ℕ → Bool
are_quotable_texts value =
    ends_with nat_eq value (0 ∷ []) && list_all is_quotable (listed_names value)

-- Whether a backslash comes before a byte in quotes: it is `"` or a backslash.
abbrev pub needs_backslash : ℕ → Bool
needs_backslash byte = byte == 34 || byte == 92

-- A byte in quotes.
abbrev pub escaped_byte : ℕ → List ℕ
escaped_byte byte = if needs_backslash byte then 92 ∷ byte ∷ [] else byte ∷ []

-- A text in quotes.
abbrev pub quoted_text : List ℕ → List ℕ
quoted_text text = 34 ∷ (flat_map escaped_byte text ++ 34 ∷ [])

-- Two hexadecimal digits in lower case for each byte.
abbrev pub hexadecimal_digits : List ℕ → List ℕ
hexadecimal_digits bytes = flat_map (digits_of_byte false) bytes

-- The words for a value: none if it is empty; its texts in quotes if it is such texts; or else `0x`
-- and the digits of its bytes.
abbrev pub value_words : List ℕ → List (List ℕ)
value_words value =
    if bytes_eq value [] then [] else
    if are_quotable_texts value then map quoted_text (listed_names value) else
    (codes "0x" ++ hexadecimal_digits value) ∷ []
