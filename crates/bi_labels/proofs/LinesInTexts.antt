use Rattle.std.proofs.Common.{◌≡◌, ◌<◌, ◌≤◌, ◌+◌, ◌-◌, ◌==◌, ℕ, suc, Bool, true, false, cond, List, [], ◌∷◌, Some, None}
use Rattle.std.proofs.Common.{length, take, drop, refl, sym, ap, arith, one-add}
use Rattle.std.specs.List.{onto_first, position, position_or_len}
use Rattle.std.proofs.lemmas.List.{length-drop, take_all}
use Rattle.std.proofs.lemmas.Bool.{ltb-false}
use borrow.Author.Tests.{ltb-true}
use Rattle.bi_labels.specs.LabelledTexts.{lines_in}

-- The lines of a text, by the index of its first newline.

-- Whether a byte is a newline.
abbrev is_newline : ℕ → Bool
is_newline byte = byte == 10

-- The index of the first newline, or the length of the text if it has none.
abbrev end_of_line : List ℕ → ℕ
end_of_line text = position_or_len is_newline text

-- The bytes before the first newline are the first line, and the bytes after it have the others.
cut_line : (text : List ℕ) → end_of_line text < length text →
    lines_in text ≡ take (end_of_line text) text ∷ lines_in (drop (suc (end_of_line text)) text)
cut_line [] within = absurd (omega (arith, within))
cut_line (byte ∷ text) within = by (is_newline byte) refl within (λ within. cut_line text within)
  where
    by : (b : Bool) → is_newline byte ≡ b → end_of_line (byte ∷ text) < length (byte ∷ text) →
        (end_of_line text < length text → lines_in text ≡ take (end_of_line text) text ∷ lines_in (drop (suc (end_of_line text)) text)) →
        lines_in (byte ∷ text) ≡
        take (end_of_line (byte ∷ text)) (byte ∷ text) ∷ lines_in (drop (suc (end_of_line (byte ∷ text))) (byte ∷ text))
    by true is within rest = rw is refl
    by false is within rest =
        let less : end_of_line text < length text =
        (let few : 1 + end_of_line text < length (byte ∷ text) = rw is at within in omega (arith, few)) in
        rw (is, one-add) (ap (onto_first byte) (rest less))

-- A text without a newline is one line, if it has a byte.
one_line : (text : List ℕ) → 0 < length text → length text ≤ end_of_line text → lines_in text ≡ text ∷ []
one_line [] some none = absurd (omega (arith, some))
one_line (byte ∷ text) some none = by (is_newline byte) refl text none (λ some none. one_line text some none)
  where
    by : (b : Bool) → is_newline byte ≡ b → (text : List ℕ) → length (byte ∷ text) ≤ end_of_line (byte ∷ text) →
        (0 < length text → length text ≤ end_of_line text → lines_in text ≡ text ∷ []) → lines_in (byte ∷ text) ≡ (byte ∷ text) ∷ []
    by true is text none rest = absurd (let few : length (byte ∷ text) ≤ 0 = rw is at none in omega (arith, few))
    by false is [] none rest = rw is refl
    by false is (next ∷ later) none rest =
        let more : length (byte ∷ next ∷ later) ≤ 1 + end_of_line (next ∷ later) = rw is at none in
        rw is (ap (onto_first byte) (rest (omega arith) (omega (arith, more))))

-- What the search for the first newline tells.
found : (b : Bool) (n end : ℕ) → cond b (Some n) None ≡ Some end → (b ≡ true) × (n ≡ end)
found true n end e = (refl, cc)
found false n end e = absurd cc

not_found : (b : Bool) (n : ℕ) → cond b (Some n) None ≡ None → b ≡ false
not_found true n e = absurd cc
not_found false n e = refl

pub first_line : (text : List ℕ) (end : ℕ) → position (λ byte. byte == 10) text ≡ Some end →
    lines_in text ≡ take end text ∷ lines_in (take (length text - (end + 1)) (drop (end + 1) text))
first_line text end e =
    let here = found _ _ end e in
    let within : end_of_line text < length text = ltb-true _ _ here.0 in
    let all : take (length text - (end + 1)) (drop (end + 1) text) ≡ drop (end + 1) text =
    take_all _ (drop (end + 1) text) (omega (arith, length-drop (end + 1) text)) in
    let same : end + 1 ≡ suc (end_of_line text) = omega (arith, here.1) in
    rw (all, same, sym here.1) (cut_line text within)

pub last_line : (text : List ℕ) → 0 < length text → position (λ byte. byte == 10) text ≡ None → lines_in text ≡ text ∷ []
last_line text some e = one_line text some (ltb-false _ _ (not_found _ _ e))
