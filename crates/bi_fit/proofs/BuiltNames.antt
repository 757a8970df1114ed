use Rattle.std.proofs.Common.{◌≡◌, ℕ, Bool, true, List, [], ◌∷◌, Ordering, Less, Equal, Greater, is_lt, nat_cmp, refl, sym, true≢false}
use Rattle.std.proofs.Common.{rules}
use Rattle.std.specs.Prelude.{◌&&◌}
use Rattle.std.specs.Cmp.Lexicographic.{slice_cmp}
use Rattle.std.specs.List.{AllByRecursion}
use Rattle.std.specs.List.Sorted.{IsStrictlySortedBy}
use Rattle.std.proofs.lemmas.Bool.{and_parts}
use Rattle.bi_fit.specs.ChangedNames.{AreRankedNames}
use Rattle.bi_fit.specs.BuiltNames.{built_names}

-- The names of the properties of a tree to be built are in byte order.

-- Whether a name is before each of some others,
abbrev is_first : List ℕ → List (List ℕ) → Bool
is_first name [] = true
is_first name (other ∷ others) = is_lt (slice_cmp nat_cmp name other) && is_first name others

first_is : (name : List ℕ) (others : List (List ℕ)) → is_first name others ≡ true →
    AllByRecursion (λ other. slice_cmp nat_cmp name other ≡ Less) others
first_is name [] is = tt
first_is name (other ∷ others) is =
    let parts = and_parts (is_lt (slice_cmp nat_cmp name other)) (is_first name others) is in
    (less (slice_cmp nat_cmp name other) parts.0, first_is name others parts.1)
  where
    less : (o : Ordering) → is_lt o ≡ true → o ≡ Less
    less Less is = refl
    less Equal is = absurd (true≢false (sym is))
    less Greater is = absurd (true≢false (sym is))

-- and whether names are in byte order.
abbrev are_in_order : List (List ℕ) → Bool
are_in_order [] = true
are_in_order (name ∷ names) = is_first name names && are_in_order names

pub names_in_order : (names : List (List ℕ)) → are_in_order names ≡ true → IsStrictlySortedBy (slice_cmp nat_cmp) names
unfolding IsStrictlySortedBy
names_in_order [] are = tt
names_in_order (name ∷ names) are =
    let parts = and_parts (is_first name names) (are_in_order names) are in
    (first_is name names parts.0, names_in_order names parts.1)

-- These are the ranks of those that a text changes.
pub built_ranked : AreRankedNames built_names (record { payload = 5; offset = 6; position = 7; size = 8; time = 20; digest = 22 })
built_ranked = search (rules, names_in_order)
