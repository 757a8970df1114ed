use Rattle.std.proofs.Common.{◌≡◌, Bool, true, false, not, ◌||◌, List, [], ◌∷◌, ◌++◌, flat_map, Contains, IsFalse, ◌⊎◌, inl, inr, refl}
use Rattle.std.proofs.Common.{sym, map, rules}
use Rattle.std.proofs.Common.{ap, ap₂, ◌∙◌, true≢false}
use Rattle.std.specs.Prelude.{if◌then◌else◌}
use Rattle.std.specs.List.{AllByRecursion, list_any}
use Rattle.std.proofs.Math.Bool.{or-true}
use Rattle.std.proofs.lemmas.List.Elements.{filter-append}
use Rattle.bi_base.proofs.ListMembers.{Contains-none, Contains-cases, Contains-first, Contains-others}
use Rattle.bi_report.specs.declared.check.Allowed.{Allowed}
use Rattle.bi_report.specs.declared.check.ConcernKind.{ConcernKind}
use Rattle.bi_report.specs.Checking.{Concern, allows, kept_concerns, kind_of}

-- Concerns have no line if and only if each of them has none, and a concern that comes from a test has none if and only if it is allowed or
-- the test passes.

-- None of these concerns has a line.
abbrev pub HaveNoLine : Allowed → List Concern → Type 0
HaveNoLine allowed concerns = kept_concerns allowed concerns ≡ []

-- A concern that is allowed has no line.
pub allowed_has_none : (allowed : Allowed) (concern : Concern) → allows allowed (kind_of concern) ≡ true → HaveNoLine allowed (concern ∷ [])
allowed_has_none allowed concern is = rw is refl

-- Two lists are empty if both together are.
both_empty : {X : Type 0} (xs ys : List X) → xs ++ ys ≡ [] → (xs ≡ []) × (ys ≡ [])
both_empty [] ys e = (refl, e)
both_empty (x ∷ xs) ys e = absurd cc

-- A concern is kept if it is not allowed.
abbrev is_kept : Allowed → Concern → Bool
is_kept allowed concern = not (allows allowed (kind_of concern))

-- The concerns of two lists.
pub parts_have_none : (allowed : Allowed) (one later : List Concern) → HaveNoLine allowed (one ++ later) →
    HaveNoLine allowed one × HaveNoLine allowed later
parts_have_none allowed one later none =
    both_empty (kept_concerns allowed one) (kept_concerns allowed later) (sym (filter-append (is_kept allowed) one later) ∙ none)

pub both_have_none : (allowed : Allowed) (one later : List Concern) → HaveNoLine allowed one → HaveNoLine allowed later →
    HaveNoLine allowed (one ++ later)
both_have_none allowed one later first rest = filter-append (is_kept allowed) one later ∙ ap₂ (λ (a b : List Concern). a ++ b) first rest

-- The concerns about each element of a list.
pub each_has_none : {X : Type 0} (allowed : Allowed) (f : X → List Concern) (xs : List X) → HaveNoLine allowed (flat_map f xs) →
    AllByRecursion (λ x. HaveNoLine allowed (f x)) xs
each_has_none allowed f [] none = tt
each_has_none allowed f (x ∷ xs) none = let both = parts_have_none allowed (f x) (flat_map f xs) none in (
  both.0,
  each_has_none allowed f xs both.1,
)

pub all_have_none : {X : Type 0} (allowed : Allowed) (f : X → List Concern) (xs : List X) →
    AllByRecursion (λ x. HaveNoLine allowed (f x)) xs → HaveNoLine allowed (flat_map f xs)
all_have_none allowed f [] each = refl
all_have_none allowed f (x ∷ xs) each = both_have_none allowed (f x) (flat_map f xs) each.0 (all_have_none allowed f xs each.1)

-- One concern without a line is allowed.
pub one_is_allowed : (allowed : Allowed) (concern : Concern) → HaveNoLine allowed (concern ∷ []) → allows allowed (kind_of concern) ≡ true
one_is_allowed allowed concern none = search rules

-- So one that comes from a test has none if and only if the test is passed where it is not allowed.
pub test_is_passed : (allowed : Allowed) (test : Bool) (concern : Concern) → HaveNoLine allowed (if test then [] else concern ∷ []) →
    IsFalse (allows allowed (kind_of concern)) → test ≡ true
test_is_passed allowed true concern none refused = refl
test_is_passed allowed false concern none refused = absurd (true≢false (sym (one_is_allowed allowed concern none) ∙ refused))

pub passed_has_none : (allowed : Allowed) (test : Bool) (concern : Concern) → (IsFalse (allows allowed (kind_of concern)) → test ≡ true) →
    HaveNoLine allowed (if test then [] else concern ∷ [])
passed_has_none allowed true concern passed = refl
passed_has_none allowed false concern passed = search (rules, allowed_has_none)

-- One that comes from a test that passes has none if and only if the test fails where it is not allowed.
pub test_fails : (allowed : Allowed) (test : Bool) (concern : Concern) → HaveNoLine allowed (if test then concern ∷ [] else []) →
    IsFalse (allows allowed (kind_of concern)) → test ≡ false
test_fails allowed true concern none refused = absurd (true≢false (sym (one_is_allowed allowed concern none) ∙ refused))
test_fails allowed false concern none refused = refl

pub failed_has_none : (allowed : Allowed) (test : Bool) (concern : Concern) → (IsFalse (allows allowed (kind_of concern)) → test ≡ false) →
    HaveNoLine allowed (if test then concern ∷ [] else [])
failed_has_none allowed true concern fails = search (rules, allowed_has_none)
failed_has_none allowed false concern fails = refl

-- Concerns of one kind that are made of elements have no line if and only if there are no elements where it is not allowed.
pub none_is_made : {X : Type 0} (allowed : Allowed) (kind : ConcernKind) (f : X → Concern) → ((x : X) → kind_of (f x) ≡ kind) →
    (xs : List X) → HaveNoLine allowed (map f xs) → IsFalse (allows allowed kind) → xs ≡ []
none_is_made allowed kind f same [] none refused = refl
none_is_made allowed kind f same (x ∷ xs) none refused =
    let first = parts_have_none allowed (f x ∷ []) (map f xs) none in
    absurd (true≢false (sym (one_is_allowed allowed (f x) first.0) ∙ ap (allows allowed) (same x) ∙ refused))

allowed_have_none : {X : Type 0} (allowed : Allowed) (kind : ConcernKind) (f : X → Concern) → ((x : X) → kind_of (f x) ≡ kind) →
    (xs : List X) → allows allowed kind ≡ true → HaveNoLine allowed (map f xs)
allowed_have_none allowed kind f same [] fine = refl
allowed_have_none allowed kind f same (x ∷ xs) fine =
    both_have_none allowed (f x ∷ []) (map f xs) (allowed_has_none allowed (f x) (ap (allows allowed) (same x) ∙ fine))
    (allowed_have_none allowed kind f same xs fine)

pub made_have_none : {X : Type 0} (allowed : Allowed) (kind : ConcernKind) (f : X → Concern) → ((x : X) → kind_of (f x) ≡ kind) →
    (xs : List X) → (IsFalse (allows allowed kind) → xs ≡ []) → HaveNoLine allowed (map f xs)
made_have_none allowed kind f same xs empty = by (allows allowed kind) refl
  where
    by : (b : Bool) → allows allowed kind ≡ b → HaveNoLine allowed (map f xs)
    by true fine = allowed_have_none allowed kind f same xs fine
    by false refused = ap (λ xs. kept_concerns allowed (map f xs)) (empty refused)

-- An element that passes a test.
pub any_is_found : {X : Type 0} (test : X → Bool) (xs : List X) → list_any test xs ≡ true → (x : X) × Contains xs x × (test x ≡ true)
any_is_found test [] is = absurd cc
any_is_found {X = X} test (first ∷ others) is = by (test first) refl (λ left. any_is_found test others left) where
  by : (b : Bool) → test first ≡ b → (list_any test others ≡ true → (x : X) × Contains others x × (test x ≡ true)) →
      (x : X) × Contains (first ∷ others) x × (test x ≡ true)
  by true passes among = (first, Contains-first first others, passes)
  by false fails among =
      let rest = among (ap (λ b. b || list_any test others) (sym fails) ∙ is) in
      (rest.0, Contains-others first others rest.0 rest.1, rest.2)

-- An element that passes a test is found.
pub passes_any : {X : Type 0} (test : X → Bool) (xs : List X) (x : X) → Contains xs x → test x ≡ true → list_any test xs ≡ true
passes_any test [] x has passes = absurd (Contains-none x has)
passes_any test (first ∷ others) x has passes = by (Contains-cases first others x has)
    (λ among. passes_any test others x among passes) where
      by : (first ≡ x) ⊎ Contains others x → (Contains others x → list_any test others ≡ true) → list_any test (first ∷ others) ≡ true
      by (inl same) rest = ap (λ b. b || list_any test others) (ap test same ∙ passes)
      by (inr among) rest = ap (λ b. test first || b) (rest among) ∙ or-true (test first)
