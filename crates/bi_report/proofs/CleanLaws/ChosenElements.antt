use Rattle.std.proofs.Common.{◌≡◌, ℕ, ◌≤◌, Bool, true, false, not, List, [], ◌∷◌, ◌⊎◌, inl, inr, Contains, filter, flat_map, map, refl, sym}
use Rattle.std.proofs.Common.{ap, subst, max, ◌∙◌, arith, true≢false}
use Rattle.std.specs.List.{AllByRecursion, list_all}
use Rattle.std.proofs.lemmas.Bool.{and_parts}
use Rattle.std.proofs.lemmas.List.Elements.{Contains-append_cases, Contains-append_left, Contains-append_right}
use Rattle.bi_base.proofs.ListMembers.{Contains-cases, Contains-first, Contains-none, Contains-others}
use Rattle.bi_coverage.specs.Numbers.{greatest}

-- Elements of lists: those that pass a test, those of several lists, and the greatest of their numbers.

-- What is not empty.
first_is_there : {X : Type 0} (first : X) (others : List X) → ¬ (first ∷ others ≡ [])
first_is_there first others e = absurd cc

-- No element fails a test if and only if each passes it.
pub none_fails : {X : Type 0} (test : X → Bool) (xs : List X) → filter (λ x. not (test x)) xs ≡ [] → (x : X) → Contains xs x →
    test x ≡ true
none_fails test [] none x has = absurd (Contains-none x has)
none_fails {X = X} test (first ∷ others) none x has =
    by (test first) refl none (Contains-cases first others x has) (λ rest among. none_fails test others rest x among)
  where
    by : (b : Bool) → test first ≡ b → filter (λ x. not (test x)) (first ∷ others) ≡ [] → (first ≡ x) ⊎ Contains others x →
        (filter (λ x. not (test x)) others ≡ [] → Contains others x → test x ≡ true) → test x ≡ true
    by true is none (inl same) later = ap test (sym same) ∙ is
    by true is none (inr among) later = later (rw is at none) among
    by false is none among later = absurd (first_is_there first (filter (λ x. not (test x)) others) (rw is at none))

pub each_passes : {X : Type 0} (test : X → Bool) (xs : List X) → ((x : X) → Contains xs x → test x ≡ true) →
    filter (λ x. not (test x)) xs ≡ []
each_passes test [] each = refl
each_passes test (first ∷ others) each =
    rw (each first (Contains-first first others)) (each_passes test others (λ x among. each x (Contains-others first others x among)))

-- The same of the test for all.
pub all_pass : {X : Type 0} (test : X → Bool) (xs : List X) → list_all test xs ≡ true → (x : X) → Contains xs x → test x ≡ true
all_pass test [] all x has = absurd (Contains-none x has)
all_pass test (first ∷ others) all x has =
    let both = and_parts (test first) (list_all test others) all in
    elim (Contains-cases first others x has) [ inl same ↦ ap test (sym same) ∙ both.0 | inr among ↦ all_pass test others both.1 x among ]

pub pass_all : {X : Type 0} (test : X → Bool) (xs : List X) → ((x : X) → Contains xs x → test x ≡ true) → list_all test xs ≡ true
pass_all test [] each = refl
pass_all test (first ∷ others) each =
    rw (each first (Contains-first first others)) (pass_all test others (λ x among. each x (Contains-others first others x among)))

-- What holds of whatever is among elements holds of each.
pub each_of_contained : {X : Type 0} (P : X → Type 0) (xs : List X) → ((x : X) → Contains xs x → P x) → AllByRecursion P xs
each_of_contained P [] each = tt
each_of_contained P (first ∷ others) each =
    (each first (Contains-first first others), each_of_contained P others (λ x among. each x (Contains-others first others x among)))

-- What is among lists one after the other is in one of them.
pub list_of_element : {X Y : Type 0} (f : X → List Y) (xs : List X) (y : Y) → Contains (flat_map f xs) y →
    (x : X) × Contains xs x × Contains (f x) y
list_of_element f [] y has = absurd (Contains-none y has)
list_of_element f (first ∷ others) y has = elim (Contains-append_cases (f first) (flat_map f others) y has) [
  | inl here ↦ (first, Contains-first first others, here)
  | inr among ↦
      let later = list_of_element f others y among in
      (later.0, Contains-others first others later.0 later.1, later.2)
]

pub element_of_list : {X Y : Type 0} (f : X → List Y) (xs : List X) (x : X) (y : Y) → Contains xs x → Contains (f x) y →
    Contains (flat_map f xs) y
element_of_list f [] x y has among = absurd (Contains-none x has)
element_of_list {Y = Y} f (first ∷ others) x y has among = elim (Contains-cases first others x has) [
  | inl same ↦ Contains-append_left (f first) (flat_map f others) y (subst (λ x. Contains (f x) y) (sym same) among)
  | inr later ↦ Contains-append_right (f first) (flat_map f others) y (element_of_list f others x y later among)
]

-- The greatest number of elements that pass a test is at most a number if and only if each of them has at most this number.
pub each_at_most : {X : Type 0} (number : X → ℕ) (test : X → Bool) (xs : List X) (most : ℕ) →
    greatest (map number (filter test xs)) ≤ most → (x : X) → Contains xs x → test x ≡ true → number x ≤ most
each_at_most number test [] most within x has passes = absurd (Contains-none x has)
each_at_most {X = X} number test (first ∷ others) most within x has passes =
    by (test first) refl within (Contains-cases first others x has)
    (λ rest among. each_at_most number test others most rest x among passes)
  where
    by : (b : Bool) → test first ≡ b → greatest (map number (filter test (first ∷ others))) ≤ most → (first ≡ x) ⊎ Contains others x →
        (greatest (map number (filter test others)) ≤ most → Contains others x → number x ≤ most) → number x ≤ most
    by true is within (inl same) later =
        let here : max (number first) (greatest (map number (filter test others))) ≤ most = rw is at within in
        subst (λ x. number x ≤ most) same (omega (arith, here))
    by true is within (inr among) later =
        let here : max (number first) (greatest (map number (filter test others))) ≤ most = rw is at within in
        later (omega (arith, here)) among
    by false is within (inl same) later = absurd (true≢false (sym passes ∙ ap test (sym same) ∙ is))
    by false is within (inr among) later = later (rw is at within) among

pub greatest_at_most : {X : Type 0} (number : X → ℕ) (test : X → Bool) (xs : List X) (most : ℕ) →
    ((x : X) → Contains xs x → test x ≡ true → number x ≤ most) → greatest (map number (filter test xs)) ≤ most
greatest_at_most number test [] most each = omega arith
greatest_at_most {X = X} number test (first ∷ others) most each =
    by (test first) refl (λ passes. each first (Contains-first first others) passes)
    (greatest_at_most number test others most (λ x among passes. each x (Contains-others first others x among) passes))
  where
    by : (b : Bool) → test first ≡ b → (test first ≡ true → number first ≤ most) → greatest (map number (filter test others)) ≤ most →
        greatest (map number (filter test (first ∷ others))) ≤ most
    by true is here rest = let one = here is in rw is (omega (arith, one, rest))
    by false is here rest = rw is rest
