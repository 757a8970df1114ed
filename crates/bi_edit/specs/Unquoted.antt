use Rattle.std.specs.Prelude.{ℕ, ◌==◌, List, [], ◌∷◌, ◌++◌, if◌then◌else◌, Option, Some, None}
use Rattle.bi_edit.specs.declared.words.values.Quoting.{Quoting}
use Rattle.bi_edit.specs.declared.words.values.Quoting.TheVariants.{Outside, Inside, Escaped}

-- The bytes of texts in quotes, each with a zero after it.

-- Where the byte after a byte is.
abbrev pub next_quoting : Quoting → (byte : ℕ) → Quoting
next_quoting Outside byte = if byte == 34 then Inside else Outside
next_quoting Inside byte = if byte == 34 then Outside else if byte == 92 then Escaped else Inside
next_quoting Escaped byte = Inside

-- The bytes that a byte stands for: itself inside quotes, a zero for the quote that ends a text,
-- and none for any other byte.
abbrev pub unquoted_byte : Quoting → (byte : ℕ) → List ℕ
unquoted_byte Outside byte = []
unquoted_byte Inside byte =
    if byte == 34 then 0 ∷ [] else if byte == 92 then [] else byte ∷ []
unquoted_byte Escaped byte = byte ∷ []

-- The bytes that a text stands for, if its first byte is there.
abbrev pub bytes_in_quotes : Quoting → List ℕ → List ℕ
bytes_in_quotes quoting [] = []
bytes_in_quotes quoting (byte ∷ later) =
    unquoted_byte quoting byte ++ bytes_in_quotes (next_quoting quoting byte) later

-- A byte as a list, if there is one.
abbrev pub bytes_or_none : Option ℕ → List ℕ
bytes_or_none None = []
bytes_or_none (Some byte) = byte ∷ []
