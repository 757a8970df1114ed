use Rattle.std.proofs.Common.{◌≡◌, ◌⊎◌, List, [], ◌∷◌, ◌++◌, refl, sym, ◌∙◌, inl, inr}
use Rattle.bi_base.specs.Checks.{IsFirstFault, HasNoFault}
use Rattle.bi_base.specs.declared.fault.Fault.{Fault}

-- Proves the laws of the first fault of a list of checks: there is at most one, and there is one if and only if not all checks pass.

-- A list of checks has at most one first fault.
pub one_fault : {C : Type 0} (Passes : C → Type 0) (fault_of : C → Fault) (checks : List C) (f g : Fault) →
    IsFirstFault Passes fault_of checks f → IsFirstFault Passes fault_of checks g → f ≡ g
one_fault Passes fault_of [] f g one other = absurd one
one_fault Passes fault_of (check ∷ later) f g (inl fails) (inl too) = fails.1 ∙ sym too.1
one_fault Passes fault_of (check ∷ later) f g (inl fails) (inr passes) = absurd (fails.0 passes.0)
one_fault Passes fault_of (check ∷ later) f g (inr passes) (inl fails) = absurd (fails.0 passes.0)
one_fault Passes fault_of (check ∷ later) f g (inr passes) (inr too) = one_fault Passes fault_of later f g passes.1 too.1

-- Checks that all pass have no first fault.
pub not_both : {C : Type 0} (Passes : C → Type 0) (fault_of : C → Fault) (checks : List C) (fault : Fault) → HasNoFault Passes checks →
    IsFirstFault Passes fault_of checks fault → ⊥
not_both Passes fault_of [] fault none first = first
not_both Passes fault_of (check ∷ later) fault none (inl fails) = fails.0 none.0
not_both Passes fault_of (check ∷ later) fault none (inr passes) = not_both Passes fault_of later fault none.1 passes.1

-- A check that passes or fails, before a list that has a first fault or none.
fault_or_none_from : {C : Type 0} (Passes : C → Type 0) (fault_of : C → Fault) (check : C) (later : List C) →
    Passes check ⊎ ¬ (Passes check) → HasNoFault Passes later ⊎ ((fault : Fault) × IsFirstFault Passes fault_of later fault) →
    HasNoFault Passes (check ∷ later) ⊎ ((fault : Fault) × IsFirstFault Passes fault_of (check ∷ later) fault)
fault_or_none_from Passes fault_of check later (inr fails) rest = inr (fault_of check, inl (fails, refl))
fault_or_none_from Passes fault_of check later (inl passes) (inl none) = inl (passes, none)
fault_or_none_from Passes fault_of check later (inl passes) (inr first) = inr (first.0, inr (passes, first.1))

-- Where each check passes or fails, all pass or there is a first fault.
pub fault_or_none : {C : Type 0} (Passes : C → Type 0) (fault_of : C → Fault) → ((check : C) → Passes check ⊎ ¬ (Passes check)) →
    (checks : List C) → HasNoFault Passes checks ⊎ ((fault : Fault) × IsFirstFault Passes fault_of checks fault)
fault_or_none Passes fault_of decided [] = inl tt
fault_or_none Passes fault_of decided (check ∷ later) =
    fault_or_none_from Passes fault_of check later (decided check) (fault_or_none Passes fault_of decided later)

-- The first fault of two lists where it is in the first list.
pub IsFirstFault-front : {C : Type 0} (P : C → Type 0) (f : C → Fault) (front after : List C) (fault : Fault) →
    IsFirstFault P f front fault → IsFirstFault P f (front ++ after) fault
IsFirstFault-front P f [] after fault first = absurd first
IsFirstFault-front P f (check ∷ front) after fault (inl here) = inl here
IsFirstFault-front P f (check ∷ front) after fault (inr later) = inr (later.0, IsFirstFault-front P f front after fault later.1)

-- The first fault of two lists where the first list passes.
pub IsFirstFault-after : {C : Type 0} (P : C → Type 0) (f : C → Fault) (front after : List C) (fault : Fault) → HasNoFault P front →
    IsFirstFault P f after fault → IsFirstFault P f (front ++ after) fault
IsFirstFault-after P f [] after fault none first = first
IsFirstFault-after P f (check ∷ front) after fault none first = inr (none.0, IsFirstFault-after P f front after fault none.1 first)
