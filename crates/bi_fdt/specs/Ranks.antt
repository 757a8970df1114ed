use Rattle.std.specs.Prelude.{ℕ, ◌+◌, List, [], ◌∷◌, map, IsPermutation}
use Rattle.std.specs.Cmp.Lexicographic.{slice_cmp}
use Rattle.std.specs.List.{AllZip}
use Rattle.std.specs.List.Sorted.{IsStrictlySortedBy}
use Rattle.std.specs.Ordering.{nat_cmp}
use denote.Ref.{Bor}
use Rattle.bi_blob.specs.NamesByPrefix.{prefix_of_name}
use Rattle.bi_fdt.specs.Numbers.{IsNumberOf}

-- The ranks of names: their indices in byte order.

-- These are names in byte order, and the rank of each of them.
pub record AreRanksOf (names sorted : List (List ℕ)) (ranks : List ℕ) : Type 0 where
  pub in_order : IsStrictlySortedBy (slice_cmp nat_cmp) sorted
  pub same_names : IsPermutation names sorted
  pub ranked : AllZip (IsNumberOf sorted) names ranks

-- A name between its first eight bytes as a number, so that most names are compared without reading
-- them, and its own number.
abbrev pub NumberedName : Type 0
NumberedName = ℕ × Bor (List ℕ) × ℕ

-- These names, each with its number, if the first has this number.
abbrev pub with_numbers_from : (number : ℕ) → List (Bor (List ℕ)) → List NumberedName
with_numbers_from number [] = []
with_numbers_from number (name ∷ later) =
    (prefix_of_name name.now, name, number) ∷ with_numbers_from (number + 1) later

-- These names without the numbers.
abbrev pub slices_in : List NumberedName → List (Bor (List ℕ))
slices_in numbered = map (λ one. one.1) numbered

-- The bytes of these names.
abbrev pub names_in : List NumberedName → List (List ℕ)
names_in numbered = map (λ one. one.1.now) numbered

-- These are names with their numbers, which are their indices, in byte order.
pub record IsOrderOfNames (names : List (Bor (List ℕ))) (order : List NumberedName) : Type 0 where
  pub permutation : IsPermutation (with_numbers_from 0 names) order
  pub in_order : IsStrictlySortedBy (slice_cmp nat_cmp) (names_in order)
