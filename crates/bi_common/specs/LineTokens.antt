use Rattle.std.specs.Prelude.{ℕ, ◌||◌, not, Bool, true, false, List, [], ◌∷◌, ◌++◌, codes}
use Rattle.std.specs.Prelude.{bytes_eq, flat_map, if◌then◌else◌}
use Rattle.bi_common.specs.Lines.{Field, Line, Value, field_text}
use Rattle.bi_common.specs.Tokens.{Writing}

-- Lines, word by word.

-- What is put to a pen for lines: a word, or the end of a line.
pub data LineToken : Type 0 where
  NextField : Field → LineToken
  EndOfLine : LineToken

-- One word, and an end. They are not unfolded, so that a list that is built of them keeps its
-- pieces.
unfoldable pub one_field : Field → List LineToken
one_field word = NextField word ∷ []

unfoldable pub end_of_line : List LineToken
end_of_line = EndOfLine ∷ []

-- The tokens of a line.
abbrev pub line_tokens : Line → List LineToken
line_tokens words = flat_map one_field words ++ end_of_line

-- The tokens of lines.
abbrev pub tokens_of_lines : List Line → List LineToken
tokens_of_lines lines = flat_map line_tokens lines

-- ---- how they are written

-- Whether a word is that of an empty value, for which nothing is printed.
abbrev pub is_nothing : Field → Bool
is_nothing (Value value) = bytes_eq value []
is_nothing word = false

-- What comes before a word: a space, if it is not the first of its line.
abbrev pub space : (is_later : Bool) → List ℕ
space false = []
space true = 32 ∷ []

-- A token after others. `is_later` is whether there is a word before it in its line.
abbrev pub line_token_text : (is_later : Bool) → LineToken → List ℕ
line_token_text is_later (NextField word) =
    if is_nothing word then [] else space is_later ++ field_text word
line_token_text is_later EndOfLine = codes "\n"

-- Whether there is a word in the line after this token.
abbrev pub has_word : (is_later : Bool) → LineToken → Bool
has_word is_later (NextField word) = not (is_nothing word) || is_later
has_word is_later EndOfLine = false

-- How lines are written: the fact is whether the line has a word.
abbrev pub line_writing : Writing LineToken
line_writing = record { text = line_token_text; next = has_word }
