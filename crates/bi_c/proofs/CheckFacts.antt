use Rattle.std.proofs.Common.{◌≡◌, ◌<◌, ◌+◌, ◌++◌, ◌∷◌, ◌∙◌, [], ap, subst, ℕ, zero, suc, List, Option, None, Some, get_or, length}
use Rattle.std.proofs.Common.{take, inl, inr, refl}
use Rattle.std.proofs.lemmas.List.{length-append}
use Rattle.std.proofs.lemmas.Option.{slice_get-get_or}
use Rattle.std.specs.List.{AllByRecursion}
use Rattle.bi_base.specs.Limits.{IsInRange}
use Rattle.bi_c.specs.declared.argument.Argument.{Argument}
use Rattle.bi_c.specs.declared.argument.Argument.TheVariants.{Limit, Depth}
use Rattle.bi_c.specs.Checks.{ArrayCheck, IsFirstWrong, IsLimit, IsWrong, IsWrongLimit, LimitsCheck, NextCheck, NoCheck}
use Rattle.bi_c.proofs.ListedChoices.{all_at}

-- What a check of arguments finds is what the checks that it is made of find.

-- The argument that is checked next is wrong, or one before it is.
pub next_is_wrong : (First : Option (Argument × ℕ) → Type 0) (next : Argument) (AreValid : Type 0) → First None → ¬ AreValid →
    IsWrong (NextCheck First next AreValid) next 0
next_is_wrong First next AreValid first wrong = (wrong, inr (refl, refl, first, wrong))

pub first_is_wrong : (First : Option (Argument × ℕ) → Type 0) (next : Argument) (AreValid : Type 0) (found : Argument) (index : ℕ) →
    (AreValid → First None) → IsWrong First found index → IsWrong (NextCheck First next AreValid) found index
first_is_wrong First next AreValid found index before wrong = ((λ valid. wrong.0 (before valid)), inl wrong.1)

module _ {T : Type 0} (First : Option (Argument × ℕ) → Type 0) (array : Argument) (IsValid : T → Type 0) (elements : List T) where
  -- An element of the array that is checked next is wrong, or an argument before it is.
  pub element_is_wrong : (index : ℕ) → First None → IsFirstWrong IsValid elements index →
      IsWrong (ArrayCheck First array IsValid elements) array index
  element_is_wrong index first is =
      ((λ valid. is.is_wrong (all_at IsValid elements index is.element valid.1 is.is_there)), inr (refl, first, is))

  pub before_array_is_wrong : (found : Argument) (index : ℕ) → IsWrong First found index →
      IsWrong (ArrayCheck First array IsValid elements) found index
  before_array_is_wrong found index wrong = ((λ valid. wrong.0 valid.0), inl wrong.1)

-- The limit or the depth is wrong.
pub limits_are_wrong : (limit depth : ℕ) (found : Argument) → IsWrongLimit limit found → ¬ (IsInRange limit depth) →
    IsWrong (LimitsCheck limit depth) found 0
limits_are_wrong limit depth found (inl is) wrong = (wrong, inl (inr (is.0, refl, tt, is.1)))
limits_are_wrong limit depth found (inr is) wrong = (wrong, inr (is.0, refl, is.1, wrong))

-- The element at an index is the first of a list that is not valid.
pub wrong_at : {T : Type 0} (IsValid : T → Type 0) (elements : List T) (index : ℕ) (none : T) → index < length elements →
    AllByRecursion IsValid (take index elements) → ¬ (IsValid (get_or elements index none)) → IsFirstWrong IsValid elements index
wrong_at IsValid elements index none within before wrong = record {
  element = get_or elements index none;
  is_there = slice_get-get_or elements index none within;
  before = before;
  is_wrong = wrong;
}

-- One more item is counted.
pub counted_more : {T : Type 0} (before after : List T) (item : T) (index : ℕ) → after ≡ before ++ item ∷ [] → length before ≡ index →
    length after ≡ index + 1
counted_more before after item index same counted = ap length same ∙ length-append before (item ∷ []) ∙ ap (λ (n : ℕ). n + 1) counted

-- ---- which argument is wrong

-- No argument that is checked is wrong.
abbrev pub NoneWrong : (Check : Option (Argument × ℕ) → Type 0) → Type 0
NoneWrong Check = (found : Argument) (index : ℕ) → ¬ (Check (Some (found, index)))

-- Only this one can be wrong.
abbrev pub OnlyWrong : (Check : Option (Argument × ℕ) → Type 0) → Argument → (index : ℕ) → Type 0
OnlyWrong Check wrong at = (found : Argument) (index : ℕ) → Check (Some (found, index)) → (found ≡ wrong) × (index ≡ at)

pub no_check_none : NoneWrong NoCheck
no_check_none found index is = is

module _ (First : Option (Argument × ℕ) → Type 0) (next : Argument) (AreValid : Type 0) where
  pub next_none : NoneWrong First → AreValid → NoneWrong (NextCheck First next AreValid)
  next_none none valid found index (inl first) = none found index first
  next_none none valid found index (inr is) = is.3 valid

  pub next_only : NoneWrong First → OnlyWrong (NextCheck First next AreValid) next 0
  next_only none found index (inl first) = absurd (none found index first)
  next_only none found index (inr is) = (is.0, is.1)

  pub next_keeps : (wrong : Argument) (at : ℕ) → OnlyWrong First wrong at → ¬ (First None) →
      OnlyWrong (NextCheck First next AreValid) wrong at
  next_keeps wrong at only not_first found index (inl first) = only found index first
  next_keeps wrong at only not_first found index (inr is) = absurd (not_first is.2)

module _ {T : Type 0} (First : Option (Argument × ℕ) → Type 0) (array : Argument) (IsValid : T → Type 0) (elements : List T) where
  pub array_none : NoneWrong First → AllByRecursion IsValid elements → NoneWrong (ArrayCheck First array IsValid elements)
  array_none none valid found index (inl first) = none found index first
  array_none none valid found index (inr is) =
      is.2.is_wrong (all_at IsValid elements index is.2.element valid is.2.is_there)

  pub array_only : (at : ℕ) → NoneWrong First → ((index : ℕ) → IsFirstWrong IsValid elements index → index ≡ at) →
      OnlyWrong (ArrayCheck First array IsValid elements) array at
  array_only at none only found index (inl first) = absurd (none found index first)
  array_only at none only found index (inr is) = (is.0, only index is.2)

  pub array_keeps : (wrong : Argument) (at : ℕ) → OnlyWrong First wrong at → ¬ (First None) →
      OnlyWrong (ArrayCheck First array IsValid elements) wrong at
  array_keeps wrong at only not_first found index (inl first) = only found index first
  array_keeps wrong at only not_first found index (inr is) = absurd (not_first is.1)

-- Limits in their ranges are not wrong.
pub limits_none : (limit depth : ℕ) → IsInRange limit depth → NoneWrong (LimitsCheck limit depth)
limits_none limit depth in_range =
    next_none (NextCheck NoCheck Limit (IsLimit limit)) Depth (IsInRange limit depth)
    (next_none NoCheck Limit (IsLimit limit) no_check_none (in_range.0, in_range.1)) in_range

module _ {T : Type 0} (IsValid : T → Type 0) where
  -- The first element of a list that is not valid is the first one,
  pub first_only : (element : T) (others : List T) → ¬ (IsValid element) → (index : ℕ) →
      IsFirstWrong IsValid (element ∷ others) index → index ≡ 0
  first_only element others wrong zero is = refl
  first_only element others wrong (suc index) is = absurd (wrong is.before.0)

  -- or the second, after a valid one.
  pub second_only : (element next : T) (others : List T) → IsValid element → ¬ (IsValid next) → (index : ℕ) →
      IsFirstWrong IsValid (element ∷ next ∷ others) index → index ≡ 1
  second_only element next others valid wrong zero is =
      absurd (is.is_wrong (subst IsValid (let there : Some element ≡ Some is.element = is.is_there in cc) valid))
  second_only element next others valid wrong (suc zero) is = refl
  second_only element next others valid wrong (suc (suc index)) is = absurd (wrong is.before.1.0)
