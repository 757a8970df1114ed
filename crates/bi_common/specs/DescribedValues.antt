use Rattle.std.specs.Prelude.{ℕ, ◌==◌, ◌&&◌, Bool, true, false, not, List, [], ◌∷◌, ◌++◌, flat_map}
use Rattle.std.specs.Prelude.{if◌then◌else◌}
use Rattle.bi_common.specs.ValueTexts.{is_printable, escaped_byte, needs_backslash}

-- The values of properties in a description, as they are written byte by byte.

-- Whether the bytes that are left of a value end texts that are printed in quotes. `has_begun` is
-- whether the text that the bytes before them begin has a byte.
abbrev pub end_texts : (has_begun : Bool) → List ℕ → Bool
end_texts has_begun [] = not has_begun
end_texts has_begun (byte ∷ later) =
    if byte == 0 then has_begun && end_texts false later
    else is_printable byte && end_texts true later

-- A byte of texts that have zeros between them: a zero ends a text and begins the next one.
abbrev pub quoted_byte : ℕ → List ℕ
quoted_byte byte = if byte == 0 then 34 ∷ 32 ∷ 34 ∷ [] else escaped_byte byte

-- A byte of texts that is put in quotes unchanged.
abbrev pub is_unescaped : ℕ → Bool
is_unescaped byte = not (byte == 0) && not (needs_backslash byte)

-- Texts that have zeros between them, in quotes.
abbrev pub quoted_texts : List ℕ → List ℕ
quoted_texts texts = 34 ∷ (flat_map quoted_byte texts ++ 34 ∷ [])
