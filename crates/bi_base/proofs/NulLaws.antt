use Rattle.std.proofs.Common.{◌≡◌, ◌≢◌, ◌==◌, ℕ, ◌<◌, List, ◌++◌, [], ◌∷◌, length, drop, arith, refl, sym, one-add, ◌∙◌, ap, inl, inr}
use Rattle.std.specs.List.{AllByRecursion, position_or_len}
use Rattle.std.proofs.lemmas.Bool.{cases_lt, eqb-true, eqb-false, ne_eqb}
use Rattle.std.proofs.lemmas.List.{get_or-take, drop_more, drop_all, length-take}
use Rattle.std.proofs.lemmas.List.Elements.{recursion_from_All}
use Rattle.std.proofs.lemmas.List.Sums.{fails_before_first, passes_at_first}
use Rattle.bi_base.specs.Strings.{before_nul, IsEmptyOrBeginsWithNul}

-- The numbers before the first zero of a list are not zero, and what follows them is empty or begins with a zero.

-- The index of the first zero, or the length where none is zero.
abbrev pub nul_index : List ℕ → ℕ
nul_index numbers = position_or_len (λ number. number == 0) numbers

-- Numbers that are not zero, followed by a zero or by nothing, are the numbers before the first zero.
pub before_nul-append : (first rest : List ℕ) → AllByRecursion (λ number. number ≢ 0) first
    → IsEmptyOrBeginsWithNul rest → before_nul (first ++ rest) ≡ first
before_nul-append [] [] nonzero begins = refl
before_nul-append [] (number ∷ rest) nonzero begins = rw begins
before_nul-append (number ∷ first) rest nonzero begins =
    rw (ne_eqb number 0 nonzero.0, one-add) (ap (λ list. number ∷ list) (before_nul-append first rest nonzero.1 begins))

-- None of the numbers before the first zero is zero.
pub before_nul-nonzero : (numbers : List ℕ) → AllByRecursion (λ number. number ≢ 0) (before_nul numbers)
before_nul-nonzero numbers =
    let index = nul_index numbers in
    recursion_from_All (λ number. number ≢ 0) _ (λ k d within zero.
    let before : k < index = omega (arith, length-take index numbers, within) in
    eqb-false _ 0 (fails_before_first (λ number. number == 0) numbers k d before) (sym (get_or-take index numbers k d before) ∙ zero))

-- The numbers from the first zero on are none, or begin with a zero.
pub drop-nul_index : (numbers : List ℕ) → IsEmptyOrBeginsWithNul (drop (nul_index numbers) numbers)
drop-nul_index numbers = elim (cases_lt (nul_index numbers) (length numbers)) [
  | inl within ↦ rw (drop_more numbers (nul_index numbers) 0 within)
      (eqb-true _ _ (passes_at_first (λ number. number == 0) numbers 0 within))
  | inr past ↦ rw (drop_all (nul_index numbers) numbers past) tt
]
