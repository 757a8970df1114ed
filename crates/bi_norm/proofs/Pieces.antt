use Rattle.std.proofs.Common.{◌≡◌, ◌+◌, ◌<◌, ◌-◌, ◌≤◌, ℕ, List, [], ◌∷◌, ◌++◌, length, map, take, drop, get_or, sym, ap, ◌∙◌, arith, rules}
use Rattle.std.proofs.Common.{add-one, append-nil}
use Rattle.std.specs.List.{concat, sum, slice_range}
use Rattle.std.proofs.Math.Seq.{take-add, drop-cons}
use Rattle.std.proofs.lemmas.List.{take_more, take-append-drop, map-append}
use Rattle.std.proofs.lemmas.List.Sums.{sum_by_more}
use Rattle.std.proofs.lemmas.List.Folds.{concat-append}

-- The pieces of an input and the next one are the input up to the end of that one, and have the lengths that are given.

-- The sum of the lengths up to one of them.
pub sum_more : (lengths : List ℕ) (i : ℕ) → i < length lengths → sum (take (i + 1) lengths) ≡ sum (take i lengths) + get_or lengths i 0
sum_more lengths i within = sum_by_more (λ (n : ℕ). n) lengths i 0 within

-- The lengths before one of them, itself, and those after it.
pub lengths_around : (lengths : List ℕ) (i : ℕ) → i < length lengths →
    lengths ≡ take i lengths ++ (get_or lengths i 0 ∷ drop (i + 1) lengths)
lengths_around lengths i within = sym (take-append-drop i lengths)
    ∙ ap (λ l. take i lengths ++ l) (rw add-one (drop-cons lengths i 0 within))

-- The lengths of the pieces, and one more.
pub lengths_more : (pieces : List (List ℕ)) (piece : List ℕ) (lengths : List ℕ) (i : ℕ) → i < length lengths →
    map length pieces ≡ take i lengths → length piece ≡ get_or lengths i 0 → map length (pieces ++ piece ∷ []) ≡ take (i + 1) lengths
lengths_more pieces piece lengths i within same is = search (rules, map-append, take_more)

-- The pieces together, and one more.
pub pieces_more : (pieces : List (List ℕ)) (input : List ℕ) (start end : ℕ) → start ≤ end → concat pieces ≡ take start input →
    concat (pieces ++ slice_range input start end ∷ []) ≡ take end input
pieces_more pieces input start end ordered same =
    let piece = slice_range input start end in
    let last : start + (end - start) ≡ end = omega arith in
    concat-append pieces (piece ∷ [])
    ∙ ap (λ l. l ++ concat (piece ∷ [])) same
    ∙ ap (λ l. take start input ++ l) (append-nil piece)
    ∙ sym (take-add start (end - start) input)
    ∙ ap (λ n. take n input) last
