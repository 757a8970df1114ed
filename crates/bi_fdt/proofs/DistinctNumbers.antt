use Rattle.std.proofs.Common.{◌≡◌, ℕ, zero, suc, false, List, [], ◌∷◌, map, Some, refl, sym, ap, ◌∙◌, rules}
use Rattle.std.specs.Prelude.{nat_eq}
use Rattle.std.specs.List.{slice_get, AllByRecursion, AllZip, IsDistinct}
use Rattle.std.proofs.lemmas.Bool.{ne_eqb}
use Rattle.std.proofs.lemmas.Map.Keys.{IsDistinct-cons}
use Rattle.std.proofs.lemmas.Option.{same_Some}
use Rattle.bi_blob.specs.Tree.{FileProperty, IsNew, AreDistinct, property_of}
use Rattle.bi_fdt.specs.Numbers.{HasNumber}

-- Distinct names have one number each, and the numbers of the names of properties are distinct where the names are.

-- A new name has no number.
not_among : (name : List ℕ) (names : List (List ℕ)) (number : ℕ) → IsNew name names → slice_get names number ≡ Some name → ⊥
not_among name [] number new is = absurd cc
not_among name (first ∷ later) zero new is = new.0 (same_Some first name is)
not_among name (first ∷ later) (suc number) new is = not_among name later number new.1 is

-- A name of distinct names has one number.
pub one_number_of_name : (names : List (List ℕ)) → AreDistinct names → (number other : ℕ) (name : List ℕ) →
    slice_get names number ≡ Some name →
    slice_get names other ≡ Some name → number ≡ other
one_number_of_name [] distinct number other name is other_is = absurd cc
one_number_of_name (first ∷ later) distinct zero zero name is other_is = refl
one_number_of_name (first ∷ later) distinct zero (suc other) name is other_is =
    absurd (not_among first later other distinct.0 (other_is ∙ sym is))
one_number_of_name (first ∷ later) distinct (suc number) zero name is other_is =
    absurd (not_among first later number distinct.0 (is ∙ sym other_is))
one_number_of_name (first ∷ later) distinct (suc number) (suc other) name is other_is =
    ap suc (one_number_of_name later distinct.1 number other name is other_is)

-- The number of a name is not that of another name.
numbers_differ : (names : List (List ℕ)) (name : List ℕ) (number : ℕ) → slice_get names number ≡ Some name →
    (properties : List FileProperty) (numbers : List ℕ) → IsNew name (map (λ property. property.0) (map property_of properties)) →
    AllZip (HasNumber names) properties numbers → AllByRecursion (λ other. nat_eq number other ≡ false) numbers
numbers_differ names name number is [] [] new are = tt
numbers_differ names name number is [] (other ∷ numbers) new are = absurd are
numbers_differ names name number is (property ∷ later) [] new are = absurd are
numbers_differ names name number is (property ∷ later) (other ∷ numbers) new are =
    search (rules, ne_eqb, same_Some, numbers_differ names name number is later numbers new.1 are.1)

-- Properties of distinct names have distinct numbers.
pub distinct_numbers : (names : List (List ℕ)) (properties : List FileProperty) (numbers : List ℕ) →
    AreDistinct (map (λ property. property.0) (map property_of properties)) → AllZip (HasNumber names) properties numbers →
    IsDistinct nat_eq numbers
unfolding IsDistinct
distinct_numbers names [] [] distinct are = tt
distinct_numbers names [] (number ∷ numbers) distinct are = absurd are
distinct_numbers names (property ∷ later) [] distinct are = absurd are
distinct_numbers names (property ∷ later) (number ∷ numbers) distinct are =
    IsDistinct-cons nat_eq number numbers (numbers_differ names property.name number are.0 later numbers distinct.0 are.1)
    (distinct_numbers names later numbers distinct.1 are.1)
