use Rattle.std.proofs.Common.{◌≡◌, ◌≢◌, ℕ, Bool, true, false, cond, not, List, [], ◌∷◌, Option, Some, None, inl, inr, refl, sym, ap, ◌≤◌}
use Rattle.std.proofs.Common.{◌<◌, rules}
use Rattle.std.specs.Prelude.{◌==◌, ◌&&◌, nat_le, nat_lt, bytes_eq}
use Rattle.std.specs.Bool.{Decides}
use Rattle.std.specs.List.{AllByRecursion, list_all}
use Rattle.std.proofs.lemmas.Bool.{and_parts, leb-true, le-leb, ltb-true, lt-ltb, eqb-true, eq-eqb}
use Rattle.std.proofs.lemmas.Bool.Decides.{Decides-not, not_from_Decides}
use Rattle.std.proofs.lemmas.Slice.Eq.{bytes_eq-Decides}
use Rattle.bi_base.specs.declared.fault.Fault.{Fault}
use Rattle.bi_base.specs.Checks.{IsFirstFault, HasNoFault}
use Rattle.bi_blob.specs.Tree.{IsChildName, IsPropertyName, IsNew}

-- Tests decide comparisons, new names, and the names of properties and of children. Checks that are tested to pass do so, and the first
-- that is tested to fail gives the fault.

pub le_decides : (a b : ℕ) → Decides (nat_le a b) (a ≤ b)
le_decides a b = (leb-true a b, le-leb a b)

pub lt_decides : (a b : ℕ) → Decides (nat_lt a b) (a < b)
lt_decides a b = (ltb-true a b, lt-ltb a b)

pub eq_decides : (a b : ℕ) → Decides (a == b) (a ≡ b)
eq_decides a b = (eqb-true a b, eq-eqb a b)

both_true : (a b : Bool) → a ≡ true → b ≡ true → (a && b) ≡ true
both_true a b first second = rw (first, second) refl

-- A test of two things.
pub both_decide : {P Q : Type 0} (a b : Bool) → Decides a P → Decides b Q → Decides (a && b) (P × Q)
both_decide a b first second = search (rules, and_parts, both_true)

-- A test of each element.
pub all_decide : {X : Type 0} (P : X → Type 0) (test : X → Bool) → ((x : X) → Decides (test x) (P x)) → (xs : List X) →
    Decides (list_all test xs) (AllByRecursion P xs)
all_decide P test each [] = ((λ e. tt), (λ all. refl))
all_decide P test each (x ∷ xs) = both_decide (test x) (list_all test xs) (each x) (all_decide P test each xs)

-- No byte of a name is this one.
unfoldable pub lacks_byte : ℕ → List ℕ → Bool
lacks_byte byte name = list_all (λ b. not (b == byte)) name

pub lacks_byte_decides : (byte : ℕ) (name : List ℕ) → Decides (lacks_byte byte name) (AllByRecursion (λ b. b ≢ byte) name)
unfolding lacks_byte
lacks_byte_decides byte name = search (rules, all_decide, Decides-not, eq_decides)

-- A name is new among others.
unfoldable pub is_new : List ℕ → List (List ℕ) → Bool
is_new name others = list_all (λ other. not (bytes_eq other name)) others

pub is_new_decides : (name : List ℕ) (others : List (List ℕ)) → Decides (is_new name others) (IsNew name others)
unfolding is_new
is_new_decides name others = search (rules, all_decide, Decides-not, bytes_eq-Decides)

-- A name may be that of a property.
unfoldable pub is_property_name : List ℕ → Bool
is_property_name name = not (bytes_eq name []) && lacks_byte 0 name

pub is_property_name_decides : (name : List ℕ) → Decides (is_property_name name) (IsPropertyName name)
unfolding is_property_name
is_property_name_decides name = search (rules, both_decide, Decides-not, bytes_eq-Decides, lacks_byte_decides)

-- A name may be that of a child.
unfoldable pub is_child_name : List ℕ → Bool
is_child_name name = is_property_name name && lacks_byte 47 name

pub is_child_name_decides : (name : List ℕ) → Decides (is_child_name name) (IsChildName name)
unfolding is_child_name
is_child_name_decides name = search (rules, both_decide, is_property_name_decides, lacks_byte_decides)

-- The first check that a test finds to fail.
unfoldable pub first_failing : {C : Type 0} → (C → Bool) → List C → Option C
first_failing test [] = None
first_failing test (check ∷ later) = cond (test check) (first_failing test later) (Some check)

module _ {C : Type 0} (Passes : C → Type 0) (fault_of : C → Fault) (test : C → Bool)
    (decides : (check : C) → Decides (test check) (Passes check)) where
  -- Checks that a test finds to pass do so.
  pub pass_by_test : (checks : List C) → list_all test checks ≡ true → HasNoFault Passes checks
  pass_by_test checks e = (all_decide Passes test decides checks).0 e

  -- The first check that a test finds to fail gives the fault.
  pub fault_by_test : (checks : List C) (check : C) → first_failing test checks ≡ Some check →
      IsFirstFault Passes fault_of checks (fault_of check)
  unfolding first_failing
  fault_by_test [] check failing = absurd cc
  fault_by_test (first ∷ later) check failing =
      where_first (test first) refl failing (λ failing. fault_by_test later check failing)
    where
      where_first : (b : Bool) → test first ≡ b → cond (test first) (first_failing test later) (Some first) ≡ Some check →
          (first_failing test later ≡ Some check → IsFirstFault Passes fault_of later (fault_of check)) →
          IsFirstFault Passes fault_of (first ∷ later) (fault_of check)
      where_first true is failing rest = inr ((decides first).0 is, rest (rw is at failing))
      where_first false is failing rest =
          let is_first : Some first ≡ Some check = rw is at failing in
          let same : first ≡ check = cc in
          inl (not_from_Decides (test first) (decides first) is, ap fault_of (sym same))
