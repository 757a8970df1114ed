use Rattle.std.proofs.Common.{◌≡◌, true≢false, false, Some, ℕ, List, [], ◌∷◌, map, cond, IsPermutation, refl, sym, ap, subst, ◌∙◌, nat_cmp}
use Rattle.std.specs.Cmp.Lexicographic.{slice_cmp}
use Rattle.std.specs.FinMap.{find, get-from_entries}
use Rattle.std.specs.List.{AllByRecursion, IsDistinct}
use Rattle.std.specs.Map.{lookup}
use Rattle.std.proofs.lemmas.Cmp.{eq_by_cmp_equiv, nat_list_cmp_total}
use Rattle.std.proofs.lemmas.List.Sorted.{IsPermutation-map}
use Rattle.std.proofs.lemmas.Map.Keys.{IsDistinct-IsPermutation, IsDistinct-head, IsDistinct-tail}
use Rattle.bi_blob.specs.Tree.{AreDistinct, FileNode, IsNew, Property, property_of}
use Rattle.bi_fdt.specs.Numbers.{HasNumber, IsNumberOf}
use Rattle.bi_fdt.specs.Order.{AreByNumber, KeyedProperty}
use Rattle.bi_fdt.proofs.ByName.{found_by_name}
use Rattle.bi_fdt.proofs.DistinctKeys.{names_stay_distinct, one_name_each}
use Rattle.bi_fit.specs.NormalNodes.{HasDistinctNames}
use Rattle.bi_fit.proofs.PayloadProperties.{same as same_by_name}
use Rattle.bi_tree.specs.Properties.{own_property_names, without_numbers}
use Rattle.bi_plain.specs.ReadNodes.{AreReadProperties, numbered_properties}

-- The properties of a node in the order of the numbers of their names are its properties.

-- Without the numbers of their names.
abbrev named : List KeyedProperty → List Property
named keyed = map (λ one. property_of one.1) keyed

numbers_left : (keyed : List KeyedProperty) → without_numbers (numbered_properties keyed) ≡ named keyed
numbers_left [] = refl
numbers_left (one ∷ keyed) = ap (λ l. property_of one.1 ∷ l) (numbers_left keyed)

names_of_keyed : (keyed : List KeyedProperty) →
    own_property_names (numbered_properties keyed) ≡ map (λ property. property.0) (map property_of (map (λ one. one.1) keyed))
names_of_keyed [] = refl
names_of_keyed (one ∷ keyed) = ap (λ l. one.1.name ∷ l) (names_of_keyed keyed)

-- A look-up finds what a scan finds.
find_is : (name : List ℕ) (properties : List Property) → find (slice_cmp nat_cmp) name properties ≡ lookup (one_name_each name) properties
find_is name [] = refl
find_is name (property ∷ properties) = ap (cond (one_name_each name property.0) (Some property.1)) (find_is name properties)

-- Names that differ are distinct.
new_from_differ : (name : List ℕ) (others : List (List ℕ)) → AllByRecursion (λ other. one_name_each name other ≡ false) others →
    IsNew name others
new_from_differ name [] all = tt
new_from_differ name (other ∷ others) all = (
  (λ same. true≢false (sym ((eq_by_cmp_equiv nat_list_cmp_total).refl name) ∙ subst (λ n. one_name_each name n ≡ false) same all.0)),
  new_from_differ name others all.1,
)

distinct_from_differ : (names : List (List ℕ)) → IsDistinct one_name_each names → AreDistinct names
distinct_from_differ [] distinct = tt
distinct_from_differ (name ∷ names) distinct = (
  new_from_differ name names (IsDistinct-head one_name_each name names distinct),
  distinct_from_differ names (IsDistinct-tail one_name_each name names distinct),
)

-- Names stay distinct in another order.
pub distinct_moved : (names moved : List (List ℕ)) → IsPermutation names moved → AreDistinct names → AreDistinct moved
distinct_moved names moved move distinct =
    distinct_from_differ moved
    (IsDistinct-IsPermutation one_name_each (eq_by_cmp_equiv nat_list_cmp_total).symm names moved move (names_stay_distinct names distinct))

-- Each gives the number of its name.
numbered_are : (names : List (List ℕ)) (keyed : List KeyedProperty) → AllByRecursion (λ one. HasNumber names one.1 one.0) keyed →
    AllByRecursion (λ property. IsNumberOf names property.name property.number) (numbered_properties keyed)
numbered_are names [] all = tt
numbered_are names (one ∷ keyed) all = (all.0, numbered_are names keyed all.1)

pub read_properties_are : (names : List (List ℕ)) (own : FileNode) (keyed : List KeyedProperty) → HasDistinctNames own →
    AreByNumber names own.properties keyed → AreReadProperties names own (numbered_properties keyed)
read_properties_are names own keyed distinct are = record {
  same = same_by_name _ _ (λ name.
      get-from_entries nat_list_cmp_total (without_numbers (numbered_properties keyed)) name
      ∙ ap (λ l. find (slice_cmp nat_cmp) name l) (numbers_left keyed)
      ∙ find_is name (named keyed)
      ∙ sym (found_by_name own.properties keyed are.permutation distinct name));
  numbered = record {
    distinct = subst AreDistinct (sym (names_of_keyed keyed))
        (distinct_moved (map (λ property. property.0) (map property_of own.properties))
        (map (λ property. property.0) (map property_of (map (λ one. one.1) keyed)))
        (IsPermutation-map (λ (property : Property). property.0) (map property_of own.properties)
        (map property_of (map (λ one. one.1) keyed))
        (IsPermutation-map property_of own.properties (map (λ one. one.1) keyed) are.permutation)) distinct);
    numbered = numbered_are names keyed are.numbered;
  };
}
