use Rattle.std.specs.Prelude.{ℕ, ◌&&◌, ◌||◌, Bool, false, List, [], ◌∷◌, ◌++◌, codes, drop}
use Rattle.std.specs.Prelude.{take}
use Rattle.std.specs.Prelude.{Option, Some, None, flat_map, bytes_eq, if◌then◌else◌}
use Rattle.std.specs.List.{join_with_byte, list_any}
use Rattle.bi_common.specs.Lines.{Field, Line, Text, field_texts}
use Rattle.bi_describe.specs.declared.compare.signed_lines.Sign.{Sign}
use Rattle.bi_describe.specs.declared.compare.signed_lines.Sign.TheVariants as sign

-- The differences of two lists of lines (profile of this project).

-- The text of a line, without the newline.
abbrev pub line_bytes : Line → List ℕ
line_bytes words = join_with_byte 32 (flat_map field_texts words)

-- How many words the key of a line has, by its first word.
abbrev pub words_of_key_named : (first : List ℕ) → ℕ
words_of_key_named word =
    if bytes_eq word (codes "property") || bytes_eq word (codes "reservation") then 3 else
    if bytes_eq word (codes "node") || (bytes_eq word (codes "payload")
    || bytes_eq word (codes "part")) then 2 else 1

abbrev pub words_of_key : (first : Field) → ℕ
words_of_key (Text word) = words_of_key_named word
words_of_key word = 1

-- The first words of a line that is not `inside` something.
abbrev pub plain_key : Line → Line
plain_key [] = []
plain_key (first ∷ later) = take (words_of_key first) (first ∷ later)

-- The line is about what is inside a payload, by its first word.
abbrev pub is_inside_word : (first : Field) → Bool
is_inside_word (Text word) = bytes_eq word (codes "inside")
is_inside_word word = false

-- The key of a line, which names what the line is about: of `property` the first three words, of
-- `node`, `payload` and `part` the first two, of `reservation` all three, of any other the first
-- word; of `inside` the first two, and the key of the line that follows them, which is that of
-- `boot-cpu` or `reservation`.
abbrev pub key_of_line : Line → Line
key_of_line [] = []
key_of_line (first ∷ later) =
    if is_inside_word first then first ∷ (take 1 later ++ plain_key (drop 1 later))
    else plain_key (first ∷ later)

-- A line as it is compared: its text without the newline, and that of its key.
pub record ComparedLine : Type 0 where
  pub text : List ℕ
  pub key : List ℕ

abbrev pub line_to_compare : Line → ComparedLine
line_to_compare line = record { text = line_bytes line; key = line_bytes (key_of_line line) }

-- A line of the differences: its sign, and its text without the newline.
pub record SignedLine : Type 0 where
  pub sign : Sign
  pub text : List ℕ

-- Its sign as it is printed. Two lines have none: they say why two meanings differ if no line does.
abbrev pub sign_text : Sign → List ℕ
sign_text sign.None = []
sign_text sign.Removed = codes "-"
sign_text sign.Added = codes "+"

abbrev pub signed_text : SignedLine → List ℕ
signed_text line = sign_text line.sign ++ (line.text ++ codes "\n")

-- The text of the differences.
abbrev pub text_of_differences : List SignedLine → List ℕ
text_of_differences lines = flat_map signed_text lines

-- One of these lines has this text.
abbrev pub has_text : List ComparedLine → List ℕ → Bool
has_text lines text = list_any (λ line. bytes_eq line.text text) lines

-- One of these lines has this key.
abbrev pub has_line_key : List ComparedLine → List ℕ → Bool
has_line_key lines key = list_any (λ line. bytes_eq line.key key) lines

-- The line, if it is not found by its text.
abbrev pub only_line : (has_text : List ℕ → Bool) → ComparedLine → List ComparedLine
only_line has_text line = if has_text line.text then [] else line ∷ []

-- The lines of the first list that the second one has not. Lines are compared by their texts.
abbrev pub lines_only_in : (lines others : List ComparedLine) → List ComparedLine
lines_only_in lines others = flat_map (only_line (has_text others)) lines

-- The text of the first of these lines that has this key, if there is one.
abbrev pub first_text : List ComparedLine → (key : List ℕ) → Option (List ℕ)
first_text [] key = None
first_text (line ∷ later) key =
    if bytes_eq line.key key then Some line.text else first_text later key

-- The line with the sign `+`, if there is one.
abbrev pub added_line : Option (List ℕ) → List SignedLine
added_line None = []
added_line (Some text) = record { sign = sign.Added; text = text } ∷ []

-- What is written for a line that was removed: the line with the sign `-`, and after it its
-- counterpart with the sign `+`, if it has one. `first` is the text of the first line that was
-- added, by its key.
abbrev pub removed_lines : (first : List ℕ → Option (List ℕ)) → ComparedLine → List SignedLine
removed_lines first line =
    record { sign = sign.Removed; text = line.text } ∷ added_line (first line.key)

-- This text is the one that was found.
abbrev pub is_found : Option (List ℕ) → List ℕ → Bool
is_found None text = false
is_found (Some found) text = bytes_eq found text

-- The line that was added is a counterpart: `has_line_key` is whether a line with a key was
-- removed.
abbrev pub is_counterpart_by : (has_line_key : List ℕ → Bool) → (first : List ℕ → Option (List ℕ))
    → ComparedLine → Bool
is_counterpart_by has_line_key first line =
    has_line_key line.key && is_found (first line.key) line.text

-- What is written for a line that was added: nothing if it is a counterpart, so that it was written
-- before; or else the line with the sign `+`.
abbrev pub added_lines : (has_line_key : List ℕ → Bool) → (first : List ℕ → Option (List ℕ))
    → ComparedLine → List SignedLine
added_lines has_line_key first line =
    if is_counterpart_by has_line_key first line then [] else added_line (Some line.text)

-- What is written for lines that were removed, and for lines that were added.
abbrev pub signed_lines : (removed added : List ComparedLine) → List SignedLine
signed_lines removed added =
    flat_map (removed_lines (first_text added)) removed
    ++ flat_map (added_lines (has_line_key removed) (first_text added)) added

-- The differences of two lists of lines.
abbrev pub differences : (one other : List ComparedLine) → List SignedLine
differences one other = signed_lines (lines_only_in one other) (lines_only_in other one)
