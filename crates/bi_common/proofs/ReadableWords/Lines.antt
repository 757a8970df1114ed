use Rattle.std.proofs.Common.{◌≡◌, ℕ, zero, suc, true, not, ltb, List, [], ◌∷◌, ◌++◌, codes, flat_map, map, refl, sym, ◌∙◌, subst}
use Rattle.std.specs.Prelude.{⊤}
use Rattle.std.specs.Fmt.{decimal}
use Rattle.std.specs.List.{AllByRecursion, list_all}
use Rattle.std.proofs.lemmas.List.Folds.{flat_map-map}
use Rattle.bi_base.specs.Cells.{cell, cell8}
use Rattle.bi_fit.specs.Judgement.{listed_names}
use Rattle.bi_common.specs.Lines.{Line, Field, text_of_lines, field_text, field_texts}
use Rattle.bi_common.specs.Lines.{Text, Name, Decimal, Hexadecimal, Hexadecimal64, Digits, Path, Value}
use Rattle.bi_common.specs.Shown.{Words, hexadecimal, hexadecimal_64, line, path, shown_text}
use Rattle.bi_common.specs.ValueTexts.{hexadecimal_digits, quoted_text, value_words}
use Rattle.bi_common.proofs.ReadableWords.Cuts.{goes_on-append, has_no_end}
use Rattle.bi_common.proofs.ReadableWords.Numbers.{above, above_bare, above_later, decimal_above, digits_of_bytes_above, prefixed_above}
use Rattle.bi_common.proofs.ReadableWords.QuotedValues.{ValueWords, Empty, Texts, Bytes, forms}
use Rattle.bi_common.proofs.ReadableWords.ShownNames.{is_blank, shown_no_blank}
use Rattle.bi_common.proofs.ReadableWords.WordLines as lines
use Rattle.bi_common.proofs.ReadableWords.WordLines.{AreReadableWords, IsBare, IsLine, Quoted, same_lines}

-- The texts of the words of lines are read back from the text of the lines, if these can be read: which the kinds of their words show.

-- This word has no blank.
abbrev pub IsBareField : Field → Type 0
IsBareField (Text text) = list_all (λ byte. not (is_blank byte)) text ≡ true
IsBareField (Value value) = ⊥
IsBareField word = ⊤

-- This word may come after the first three of a line.
abbrev pub CanFollow : Field → Type 0
CanFollow (Text text) = list_all (λ byte. ltb 47 byte) text ≡ true
CanFollow (Name name) = ⊥
CanFollow (Path names) = ⊥
CanFollow word = ⊤

-- The first `count` of these words have no blank, and the others may come later.
abbrev pub CanRead : ℕ → Line → Type 0
CanRead count [] = ⊤
CanRead zero (word ∷ words) = CanFollow word × CanRead zero words
CanRead (suc count) (word ∷ words) = IsBareField word × CanRead count words

-- The line can be read: it has a word.
abbrev pub CanReadLine : Line → Type 0
CanReadLine [] = ⊥
CanReadLine (word ∷ words) = IsBareField word × CanRead 2 words

-- A path has no blank.
path_bare : (names : List (List ℕ)) → IsBare (path names)
path_bare [] = (refl, tt)
path_bare (name ∷ names) = steps (name ∷ names)
  where
    steps : (names : List (List ℕ)) → IsBare (flat_map (λ other. 47 ∷ shown_text other) names)
    steps [] = tt
    steps (name ∷ names) = (refl, goes_on-append is_blank (shown_text name) _ (shown_no_blank name) (steps names))

-- Such a word is one text.
record IsOneText (word : Field) : Type 0 where
  bare : IsBare (field_text word)
  only : field_texts word ≡ field_text word ∷ []

one_text : (word : Field) → IsBareField word → IsOneText word
one_text (Text text) is = record { bare = has_no_end is_blank text is; only = refl }
one_text (Name name) is = record { bare = shown_no_blank name; only = refl }
one_text (Decimal n) is = record { bare = above_bare (decimal n) (decimal_above n); only = refl }
one_text (Hexadecimal n) is = record { bare = above_bare (hexadecimal n) (prefixed_above (cell n)); only = refl }
one_text (Hexadecimal64 n) is = record { bare = above_bare (hexadecimal_64 n) (prefixed_above (cell8 n)); only = refl }
one_text (Digits bytes) is = record { bare = above_bare (hexadecimal_digits bytes) (digits_of_bytes_above bytes); only = refl }
one_text (Path names) is = record { bare = path_bare names; only = refl }
one_text (Value value) is = absurd is

-- Words after the first three.
quoted_before : (texts : List (List ℕ)) (later : Words) → AreReadableWords 0 later → AreReadableWords 0 (map quoted_text texts ++ later)
quoted_before [] later are = are
quoted_before (text ∷ texts) later are = (Quoted text refl, quoted_before texts later are)

value_before : (value : List ℕ) (later : Words) → AreReadableWords 0 later → AreReadableWords 0 (value_words value ++ later)
value_before value later are = where_form (forms value)
  where
    where_form : ValueWords value → AreReadableWords 0 (value_words value ++ later)
    where_form (Empty is words) = rw words are
    where_form (Texts lists words) = rw words (quoted_before (listed_names value) later are)
    where_form (Bytes words) = rw words (above_later (codes "0x" ++ hexadecimal_digits value) (prefixed_above value), are)

word_before : (word : Field) (later : Words) → CanFollow word → AreReadableWords 0 later → AreReadableWords 0 (field_texts word ++ later)
word_before (Text text) later may are = (above_later text (above text may), are)
word_before (Name name) later may are = absurd may
word_before (Decimal n) later may are = (above_later (decimal n) (decimal_above n), are)
word_before (Hexadecimal n) later may are = (above_later (hexadecimal n) (prefixed_above (cell n)), are)
word_before (Hexadecimal64 n) later may are = (above_later (hexadecimal_64 n) (prefixed_above (cell8 n)), are)
word_before (Digits bytes) later may are = (above_later (hexadecimal_digits bytes) (digits_of_bytes_above bytes), are)
word_before (Path names) later may are = absurd may
word_before (Value value) later may are = value_before value later are

words_read : (count : ℕ) (words : Line) → CanRead count words → AreReadableWords count (flat_map field_texts words)
words_read count [] can = tt
words_read zero (word ∷ words) can = word_before word (flat_map field_texts words) can.0 (words_read zero words can.1)
words_read (suc count) (word ∷ words) can =
    let is = one_text word can.0 in
    subst (λ texts. AreReadableWords (suc count) (texts ++ flat_map field_texts words)) (sym is.only)
    (is.bare, words_read count words can.1)

line_read : (words : Line) → CanReadLine words → IsLine (flat_map field_texts words)
line_read [] can = absurd can
line_read (word ∷ words) can =
    let is = one_text word can.0 in
    subst (λ texts. IsLine (texts ++ flat_map field_texts words)) (sym is.only)
    (lines.Line (field_text word) (flat_map field_texts words) is.bare (words_read 2 words can.1))

each_read : (own : List Line) → AllByRecursion CanReadLine own → AllByRecursion IsLine (map (flat_map field_texts) own)
each_read [] can = tt
each_read (words ∷ own) can = (line_read words can.0, each_read own can.1)

-- The texts of the words are read back.
pub same_words : (one other : List Line) → AllByRecursion CanReadLine one → AllByRecursion CanReadLine other →
    text_of_lines one ≡ text_of_lines other → map (flat_map field_texts) one ≡ map (flat_map field_texts) other
same_words one other can also same =
    same_lines (map (flat_map field_texts) one) (map (flat_map field_texts) other) (each_read one can) (each_read other also)
    (flat_map-map line (flat_map field_texts) one ∙ same ∙ sym (flat_map-map line (flat_map field_texts) other))
