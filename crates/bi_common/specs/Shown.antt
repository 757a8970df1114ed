use Rattle.std.specs.Prelude.{ℕ, ◌/◌, ◌%◌, ◌==◌, ◌&&◌, Bool, false, true, not, nat_le, List, []}
use Rattle.std.specs.Prelude.{◌∷◌, ◌++◌, codes, bytes_eq, if◌then◌else◌, Option, None, Some}
use Rattle.std.specs.Fmt.{digit_glyph}
use Rattle.std.specs.List.{join_with_byte, flat_map}
use Rattle.bi_base.specs.Cells.{cell, cell8}

-- How lines, numbers and names are printed (profile of this project).

-- A line: words, with a space between each two, and a newline.
abbrev pub line : List (List ℕ) → List ℕ
line words = join_with_byte 32 words ++ 10 ∷ []

-- The two hexadecimal digits of a byte, in upper or lower case.
abbrev pub digits_of_byte : Bool → ℕ → List ℕ
digits_of_byte upper byte = digit_glyph upper (byte / 16) ∷ digit_glyph upper (byte % 16) ∷ []

-- A number of 32 bits as `0x` and eight hexadecimal digits in lower case.
abbrev pub hexadecimal : ℕ → List ℕ
hexadecimal number = codes "0x" ++ flat_map (digits_of_byte false) (cell number)

-- Whether a byte of a name is printed unchanged: a graphic ASCII character other than `%`.
abbrev pub is_plain : ℕ → Bool
is_plain byte = nat_le 0x21 byte && nat_le byte 0x7e && not (byte == 37)

-- A byte of a name as it is printed: unchanged, or as `%` and two hexadecimal digits in upper
-- case.
abbrev pub shown_byte : ℕ → List ℕ
shown_byte byte = if is_plain byte then byte ∷ [] else 37 ∷ digits_of_byte true byte

-- A name as it is printed, byte by byte. The empty name is `-`, so the name `-` is `%2D`.
abbrev pub shown_text : List ℕ → List ℕ
shown_text name =
    if bytes_eq name [] then codes "-" else if bytes_eq name (codes "-") then codes "%2D" else
    flat_map shown_byte name

-- The words of a line. One space is between a word and the next.
abbrev pub Words : Type 0
Words = List (List ℕ)

-- The path of a node, by the names of the nodes from a child of the root down to it: `/` for the
-- root, whose list is empty, and for any other node `/` and the shown name of each.
abbrev pub path : List (List ℕ) → List ℕ
path [] = codes "/"
path (name ∷ names) = flat_map (λ other. 47 ∷ shown_text other) (name ∷ names)

-- A number of 64 bits as `0x` and sixteen hexadecimal digits in lower case.
abbrev pub hexadecimal_64 : ℕ → List ℕ
hexadecimal_64 number =
    codes "0x" ++ flat_map (digits_of_byte false) (cell8 number)

-- A name that may not be there: `-` if it is not.
abbrev pub shown_or_none : Option (List ℕ) → List ℕ
shown_or_none None = codes "-"
shown_or_none (Some name) = shown_text name
