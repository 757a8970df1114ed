use Rattle.std.proofs.Common.{◌≡◌, ℕ, ◌||◌, not, Bool, true, false, cond, List, [], ◌∷◌}
use Rattle.std.proofs.Common.{◌++◌, append-nil, append_assoc, flat_map, refl, sym, ap, ◌∙◌}
use Rattle.std.proofs.Common.{arith, subst}
use Rattle.std.specs.List.{join_with_byte}
use Rattle.bi_common.specs.LineTokens.{LineToken, EndOfLine, is_nothing, line_tokens, line_writing, one_field, end_of_line, space}
use Rattle.bi_common.specs.Lines.{Line, Field, line_text}
use Rattle.bi_common.specs.LineTokens.{tokens_of_lines}
use Rattle.bi_common.specs.Lines.{text_of_lines, field_text, field_texts}
use Rattle.bi_common.specs.Lines.{Text, Name, Decimal, Hexadecimal, Hexadecimal64, Digits, Path, Value}
use Rattle.bi_common.specs.Shown.{Words}
use Rattle.bi_common.specs.Tokens.{tokens_text}
use Rattle.bi_common.proofs.QuotedValues.{words_of_one}

-- The text that is put for the words of lines is the text of the lines.

-- Words of a line. `is_later` is whether there is a word before the first of them.
abbrev spaced : (is_later : Bool) → Words → List ℕ
spaced is_later [] = []
spaced is_later (word ∷ later) = space is_later ++ (word ++ spaced true later)

-- Words with a space between each two, and others after them.
joined : (word : List ℕ) (words later : Words) →
    spaced true ((word ∷ words) ++ later) ≡ 32 ∷ (join_with_byte 32 (word ∷ words) ++ spaced true later)
joined word [] later = refl
joined word (next ∷ words) later =
    ap (λ (text : List ℕ). 32 ∷ (word ++ text)) (joined next words later)
    ∙ ap (λ (text : List ℕ). 32 ∷ text) (sym (append_assoc word (32 ∷ join_with_byte 32 (next ∷ words)) (spaced true later)))

joined_first : (is_later : Bool) (word : List ℕ) (words later : Words) →
    spaced is_later ((word ∷ words) ++ later) ≡ (space is_later ++ join_with_byte 32 (word ∷ words)) ++ spaced true later
joined_first true word words later = joined word words later
joined_first false word [] later = refl
joined_first false word (next ∷ words) later =
    ap (λ (text : List ℕ). word ++ text) (joined next words later)
    ∙ sym (append_assoc word (32 ∷ join_with_byte 32 (next ∷ words)) (spaced true later))

-- All words of a line.
all_spaced : (words : Words) → spaced false words ≡ join_with_byte 32 words
all_spaced [] = refl
all_spaced (word ∷ words) =
    ap (spaced false) (sym (append-nil (word ∷ words))) ∙ joined_first false word words [] ∙ append-nil (join_with_byte 32 (word ∷ words))

-- A word before others.
abbrev IsWordBefore : Field → Type 0
IsWordBefore word =
    (is_later : Bool) (later : Words) →
    spaced is_later (field_texts word ++ later)
    ≡ cond (is_nothing word) [] (space is_later ++ field_text word) ++ spaced (not (is_nothing word) || is_later) later

one_before : (text : List ℕ) (is_later : Bool) (later : Words) →
    spaced is_later (text ∷ later) ≡ (space is_later ++ text) ++ spaced true later
one_before text is_later later = joined_first is_later text [] later

value_before : (value : List ℕ) → IsWordBefore (Value value)
value_before [] is_later later = refl
value_before (byte ∷ bytes) is_later later =
    let words = words_of_one (byte ∷ bytes) (omega arith) _ refl in
    rw (words.are) (joined_first is_later words.first words.others later)

word_before : (word : Field) → IsWordBefore word
word_before (Text text) = one_before text
word_before (Name name) = one_before _
word_before (Decimal number) = one_before _
word_before (Hexadecimal number) = one_before _
word_before (Hexadecimal64 number) = one_before _
word_before (Digits bytes) = one_before _
word_before (Path names) = one_before _
word_before (Value value) = value_before value

-- Words of a line, and its end.
words_written : (words : Line) (is_later : Bool) (rest : List LineToken) →
    tokens_text line_writing is_later (flat_map one_field words ++ (EndOfLine ∷ rest))
    ≡ spaced is_later (flat_map field_texts words) ++ (10 ∷ tokens_text line_writing false rest)
unfolding one_field
words_written [] is_later rest = refl
words_written (word ∷ words) is_later rest =
    let text : List ℕ = cond (is_nothing word) [] (space is_later ++ field_text word) in
    ap (λ (later : List ℕ). text ++ later) (words_written words (not (is_nothing word) || is_later) rest)
    ∙ sym (append_assoc text _ _)
    ∙ ap (λ (later : List ℕ). later ++ (10 ∷ tokens_text line_writing false rest))
    (sym (word_before word is_later (flat_map field_texts words)))

-- Lines.
line_written : (words : Line) (rest : List LineToken) →
    tokens_text line_writing false (line_tokens words ++ rest) ≡ line_text words ++ tokens_text line_writing false rest
unfolding end_of_line
line_written words rest =
    ap (tokens_text line_writing false) (append_assoc (flat_map one_field words) (EndOfLine ∷ []) rest)
    ∙ words_written words false rest
    ∙ ap (λ (text : List ℕ). text ++ (10 ∷ tokens_text line_writing false rest)) (all_spaced (flat_map field_texts words))
    ∙ sym (append_assoc (join_with_byte 32 (flat_map field_texts words)) (10 ∷ []) _)

pub text_of_tokens : (lines : List Line) → tokens_text line_writing false (tokens_of_lines lines) ≡ text_of_lines lines
text_of_tokens [] = refl
text_of_tokens (words ∷ lines) =
    line_written words (tokens_of_lines lines) ∙ ap (λ (text : List ℕ). line_text words ++ text) (text_of_tokens lines)

-- A new pen for lines was put the words of lines: their text was put to the pen below.
pub lines_put : {P : Type 0} (puts : P → List ℕ → P → Type 0) (old new begin end : P) (before : Bool) (lines : List Line) → before ≡ false →
    old ≡ begin → new ≡ end → puts old (tokens_text line_writing before (tokens_of_lines lines)) new → puts begin (text_of_lines lines) end
lines_put puts old new begin end before lines first begins ends put =
    rw (sym begins, sym ends)
    (subst (λ (text : List ℕ). puts old text new)
    (ap (λ b. tokens_text line_writing b (tokens_of_lines lines)) first ∙ text_of_tokens lines) put)
