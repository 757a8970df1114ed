use Rattle.std.proofs.Common.{◌≡◌, ◌⊎◌, ℕ, zero, suc, ◌<◌, Bool, true, false, List, [], ◌∷◌, ◌++◌, set, replicate, get_or, length}
use Rattle.std.proofs.Common.{Contains, inl, inr}
use Rattle.std.proofs.Common.{refl, sym, ap, subst, ◌∙◌, arith, true≢false}
use Rattle.std.proofs.Math.ListN.{length-set}
use Rattle.bi_base.proofs.ListMembers.{Contains-none, Contains-cases, Contains-first, Contains-others}
use Rattle.bi_plain.specs.Ranked.{with_marks}

-- Marks at numbers.

-- Those at some numbers are set, and then those at others.
pub with_marks-append : (numbers more : List ℕ) (marks : List Bool) →
    with_marks (numbers ++ more) marks ≡ with_marks more (with_marks numbers marks)
with_marks-append [] more marks = refl
with_marks-append (number ∷ numbers) more marks = with_marks-append numbers more (set marks number true)

pub length-with_marks : (numbers : List ℕ) (marks : List Bool) → length (with_marks numbers marks) ≡ length marks
length-with_marks [] marks = refl
length-with_marks (number ∷ numbers) marks = length-with_marks numbers (set marks number true) ∙ length-set marks number true

-- A mark stays set,
set_stays : (marks : List Bool) (number other : ℕ) → get_or marks other false ≡ true → get_or (set marks number true) other false ≡ true
set_stays [] number other is = absurd (true≢false (sym is))
set_stays (mark ∷ marks) zero zero is = refl
set_stays (mark ∷ marks) zero (suc other) is = is
set_stays (mark ∷ marks) (suc number) zero is = is
set_stays (mark ∷ marks) (suc number) (suc other) is = set_stays marks number other is

stays : (numbers : List ℕ) (marks : List Bool) (other : ℕ) → get_or marks other false ≡ true →
    get_or (with_marks numbers marks) other false ≡ true
stays [] marks other is = is
stays (number ∷ numbers) marks other is = stays numbers (set marks number true) other (set_stays marks number other is)

-- and is set at each of the numbers,
set_there : (marks : List Bool) (number : ℕ) → number < length marks → get_or (set marks number true) number false ≡ true
set_there [] number within = absurd (omega (arith, within))
set_there (mark ∷ marks) zero within = refl
set_there (mark ∷ marks) (suc number) within = set_there marks number (omega (arith, within))

pub is_marked : (numbers : List ℕ) (marks : List Bool) (number : ℕ) → number < length marks → Contains numbers number →
    get_or (with_marks numbers marks) number false ≡ true
is_marked [] marks number within has = absurd (Contains-none number has)
is_marked (first ∷ numbers) marks number within has =
    by_case (Contains-cases first numbers number has)
    (λ has. is_marked numbers (set marks first true) number (omega (arith, within, length-set marks first true)) has)
  where
    by_case : (first ≡ number) ⊎ Contains numbers number →
        (Contains numbers number → get_or (with_marks numbers (set marks first true)) number false ≡ true) →
        get_or (with_marks numbers (set marks first true)) number false ≡ true
    by_case (inl same) rest = stays numbers (set marks first true) number
        (subst (λ n. get_or (set marks n true) number false ≡ true) (sym same) (set_there marks number within))
    by_case (inr has) rest = rest has

-- and at no other number.
set_other : (marks : List Bool) (number other : ℕ) → get_or (set marks number true) other false ≡ true →
    (number ≡ other) ⊎ (get_or marks other false ≡ true)
set_other [] number other is = absurd (true≢false (sym is))
set_other (mark ∷ marks) zero zero is = inl refl
set_other (mark ∷ marks) zero (suc other) is = inr is
set_other (mark ∷ marks) (suc number) zero is = inr is
set_other (mark ∷ marks) (suc number) (suc other) is = by_case (set_other marks number other is)
  where
    by_case : (number ≡ other) ⊎ (get_or marks other false ≡ true) → (suc number ≡ suc other) ⊎ (get_or marks other false ≡ true)
    by_case (inl same) = inl (ap suc same)
    by_case (inr was) = inr was

pub marked_from : (numbers : List ℕ) (marks : List Bool) (number : ℕ) → get_or (with_marks numbers marks) number false ≡ true →
    Contains numbers number ⊎ (get_or marks number false ≡ true)
marked_from [] marks number is = inr is
marked_from (first ∷ numbers) marks number is = by_rest (marked_from numbers (set marks first true) number is)
  where
    by_first : (first ≡ number) ⊎ (get_or marks number false ≡ true) →
        Contains (first ∷ numbers) number ⊎ (get_or marks number false ≡ true)
    by_first (inl same) = inl (subst (Contains (first ∷ numbers)) same (Contains-first first numbers))
    by_first (inr was) = inr was

    by_rest : Contains numbers number ⊎ (get_or (set marks first true) number false ≡ true) →
        Contains (first ∷ numbers) number ⊎ (get_or marks number false ≡ true)
    by_rest (inl has) = inl (Contains-others first numbers number has)
    by_rest (inr was) = by_first (set_other marks first number was)

none_marked : (count number : ℕ) → get_or (replicate count false) number false ≡ true → ⊥
none_marked zero number is = true≢false (sym is)
none_marked (suc count) zero is = true≢false (sym is)
none_marked (suc count) (suc number) is = none_marked count number is

pub marked_only : (numbers : List ℕ) (count number : ℕ) → get_or (with_marks numbers (replicate count false)) number false ≡ true →
    Contains numbers number
marked_only numbers count number is = by_case (marked_from numbers (replicate count false) number is)
  where
    by_case : Contains numbers number ⊎ (get_or (replicate count false) number false ≡ true) → Contains numbers number
    by_case (inl has) = has
    by_case (inr was) = absurd (none_marked count number was)
