use Rattle.std.proofs.Common.{◌≡◌, ℕ, zero, suc, List, [], ◌∷◌, ◌++◌, refl, sym, ap, ◌∙◌, true≢false, rules}
use Rattle.std.specs.Prelude.{⊤}
use Rattle.std.proofs.lemmas.List.{append_assoc}
use Rattle.std.specs.List.{AllByRecursion, flat_map}
use Rattle.bi_common.specs.Shown.{line}
use Rattle.bi_common.specs.ValueTexts.{quoted_text, escaped_byte}
use Rattle.bi_common.proofs.ReadableWords.Cuts.{HasNoEnd, Ends, cut_agrees, begin_apart}
use Rattle.bi_common.proofs.ReadableWords.ShownNames.{is_blank}
use Rattle.bi_common.proofs.ReadableWords.QuotedValues.{read_quoted}

-- The words of lines are read back from their text, if the first three words of each have no blank, and each later one has none and
-- does not begin with a quote, or is a text in quotes.

-- No byte of this word is blank.
abbrev pub IsBare : List ℕ → Type 0
IsBare word = HasNoEnd is_blank word

-- This word does not begin with a quote.
abbrev pub HasNoQuote : List ℕ → Type 0
HasNoQuote [] = ⊤
HasNoQuote (byte ∷ later) = byte ≡ 34 → ⊥

-- A word that may come after the first three.
pub data IsLaterWord (word : List ℕ) : Type 0 where
  Bare : IsBare word → HasNoQuote word → IsLaterWord word
  Quoted : (text : List ℕ) → word ≡ quoted_text text → IsLaterWord word

-- Words of which the first `count` have no blank, and the others may come later.
abbrev pub AreReadableWords : ℕ → List (List ℕ) → Type 0
AreReadableWords count [] = ⊤
AreReadableWords zero (word ∷ words) = IsLaterWord word × AreReadableWords zero words
AreReadableWords (suc count) (word ∷ words) = IsBare word × AreReadableWords count words

-- The words of a line: it has one at least.
pub data IsLine : List (List ℕ) → Type 0 where
  Line : (word : List ℕ) (words : List (List ℕ)) → IsBare word → AreReadableWords 2 words → IsLine (word ∷ words)

-- What follows a word of a line: the words after it, each after a space, and a newline.
abbrev pub after_word : List (List ℕ) → List ℕ → List ℕ
after_word [] rest = 10 ∷ rest
after_word (word ∷ words) rest = 32 ∷ (word ++ after_word words rest)

-- It ends the word.
ends-after_word : (words : List (List ℕ)) (rest : List ℕ) → Ends is_blank (after_word words rest)
ends-after_word [] rest = refl
ends-after_word (word ∷ words) rest = refl

-- A line is its first word and what follows it.
line-after_word : (word : List ℕ) (words : List (List ℕ)) (rest : List ℕ) → line (word ∷ words) ++ rest ≡ word ++ after_word words rest
line-after_word word [] rest = append_assoc word (10 ∷ []) rest
line-after_word word (next ∷ words) rest = search (rules, append_assoc, line-after_word next words rest)

-- A word without a quote at its front is not a text in quotes.
not_quoted : (word x y : List ℕ) → HasNoQuote word → Ends is_blank x → word ++ x ≡ 34 ∷ y → ⊥
not_quoted [] [] y no_quote end same = absurd cc
not_quoted [] (byte ∷ x) y no_quote end same =
    let first : byte ≡ 34 = cc in true≢false (sym end ∙ ap is_blank first)
not_quoted (byte ∷ word) x y no_quote end same = no_quote cc

-- A later word is read back from what ends it.
later_agrees : (one other x y : List ℕ) → IsLaterWord one → IsLaterWord other → Ends is_blank x → Ends is_blank y → one ++ x ≡ other ++ y →
    (one ≡ other) × (x ≡ y)
later_agrees one other x y (Bare bare no_quote) (Bare also none) end ending same =
    cut_agrees is_blank one other x y bare also end ending same
later_agrees one other x y (Bare bare no_quote) (Quoted text is) end ending same =
    absurd (not_quoted one x ((flat_map escaped_byte text ++ 34 ∷ []) ++ y) no_quote end (same ∙ ap (λ w. w ++ y) is))
later_agrees one other x y (Quoted text is) (Bare bare no_quote) end ending same =
    absurd (not_quoted other y ((flat_map escaped_byte text ++ 34 ∷ []) ++ x) no_quote ending (sym same ∙ ap (λ w. w ++ x) is))
later_agrees one other x y (Quoted text is) (Quoted text_also also) end ending same = search (rules, read_quoted)

-- Words are read back from what follows a word before them.
words_agree : (count : ℕ) (one other : List (List ℕ)) (x y : List ℕ) → AreReadableWords count one → AreReadableWords count other →
    after_word one x ≡ after_word other y → (one ≡ other) × (x ≡ y)
words_agree count [] [] x y are also same = (refl, cc)
words_agree count [] (word ∷ other) x y are also same = absurd (begin_apart 10 32 x (word ++ after_word other y) refl same)
words_agree count (word ∷ one) [] x y are also same = absurd (begin_apart 32 10 (word ++ after_word one x) y refl same)
words_agree zero (a ∷ one) (b ∷ other) x y are also same =
    let first = later_agrees a b (after_word one x) (after_word other y) are.0 also.0 (ends-after_word one x)
    (ends-after_word other y) cc in
    let rest = words_agree zero one other x y are.1 also.1 first.1 in
    let head : a ≡ b = first.0 in
    let tail : one ≡ other = rest.0 in
    (cc, rest.1)
words_agree (suc count) (a ∷ one) (b ∷ other) x y are also same =
    let first = cut_agrees is_blank a b (after_word one x) (after_word other y) are.0 also.0 (ends-after_word one x)
    (ends-after_word other y) cc in
    let rest = words_agree count one other x y are.1 also.1 first.1 in
    let head : a ≡ b = first.0 in
    let tail : one ≡ other = rest.0 in
    (cc, rest.1)

-- The words of a line are read back from what follows it.
line_agrees : (one other : List (List ℕ)) (x y : List ℕ) → IsLine one → IsLine other → line one ++ x ≡ line other ++ y →
    (one ≡ other) × (x ≡ y)
line_agrees one other x y (Line a one_words bare are) (Line b other_words also_bare also) same =
    let first = cut_agrees is_blank a b (after_word one_words x) (after_word other_words y) bare also_bare
    (ends-after_word one_words x) (ends-after_word other_words y)
    (sym (line-after_word a one_words x) ∙ same ∙ line-after_word b other_words y) in
    let rest = words_agree 2 one_words other_words x y are also first.1 in
    let head : a ≡ b = first.0 in
    let tail : one_words ≡ other_words = rest.0 in
    (cc, rest.1)

-- No line is nothing.
some_line : (words : List (List ℕ)) (rest : List ℕ) → IsLine words → line words ++ rest ≡ [] → ⊥
some_line words rest (Line word later bare are) same = where_word word later (sym (line-after_word word later rest) ∙ same)
  where
    where_word : (word : List ℕ) (later : List (List ℕ)) → word ++ after_word later rest ≡ [] → ⊥
    where_word (byte ∷ word) later same = absurd cc
    where_word [] [] same = absurd cc
    where_word [] (next ∷ later) same = absurd cc

-- Lines are read back from their text.
pub same_lines : (one other : List (List (List ℕ))) → AllByRecursion IsLine one → AllByRecursion IsLine other →
    flat_map line one ≡ flat_map line other → one ≡ other
same_lines [] [] are also same = refl
same_lines [] (b ∷ other) are also same = absurd (some_line b (flat_map line other) also.0 (sym same))
same_lines (a ∷ one) [] are also same = absurd (some_line a (flat_map line one) are.0 same)
same_lines (a ∷ one) (b ∷ other) are also same =
    let first = line_agrees a b (flat_map line one) (flat_map line other) are.0 also.0 same in
    let head : a ≡ b = first.0 in
    let tail : one ≡ other = same_lines one other are.1 also.1 first.1 in
    cc
