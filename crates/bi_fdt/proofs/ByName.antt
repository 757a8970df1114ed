use Rattle.std.proofs.Common.{◌≡◌, ℕ, zero, suc, ◌<◌, T, cond, List, [], ◌∷◌, map, get_or, Less, is_lt, rules}
use Rattle.std.proofs.Common.{Option, Some, None, slice_get, IsPermutation, refl, sym, ap, subst, ◌∙◌, nat_cmp, arith}
use Rattle.std.specs.Cmp.{eq_by_cmp_equiv}
use Rattle.std.specs.Cmp.Lexicographic.{slice_cmp}
use Rattle.std.specs.FinMap.{get, from_sorted, from_entries, entries, is_sorted, find, same_map, get-from_sorted, get-from_entries}
use Rattle.std.specs.FinMap.{entries-from_sorted}
use Rattle.std.specs.FinMap.Entries.{below_all}
use Rattle.std.specs.List.{AllByRecursion, IsDistinct}
use Rattle.std.specs.List.Sorted.{IsStrictlySortedBy}
use Rattle.std.specs.Map.{keys_of, lookup}
use Rattle.std.proofs.lemmas.Cmp.{nat_list_cmp_total, ranked}
use Rattle.std.proofs.lemmas.List.Elements.{Contains-get_or}
use Rattle.std.proofs.lemmas.List.Sorted.{Contains-permutation, IsPermutation-map, IsPermutation-sym}
use Rattle.std.proofs.lemmas.Map.Keys.{IsDistinct-IsPermutation, sorted_head, sorted_tail}
use Rattle.std.proofs.lemmas.Map.Text.{is_eq-slice_cmp}
use Rattle.std.proofs.lemmas.Map.Views.{Contains-from_lookup, lookup-from_Contains}
use Rattle.std.proofs.lemmas.Option.{get_or_from_slice_get, slice_get_within}
use Rattle.std.proofs.lemmas.Slice.Eq.{bytes_eq-Decides}
use Rattle.bi_base.proofs.ListMembers.{each-contains}
use Rattle.bi_blob.specs.Tree.{Property, FileProperty, property_of, AreDistinct}
use Rattle.bi_blob.proofs.Texts.NormalEvents.{both_hold}
use Rattle.bi_blob.proofs.Texts.PropertyOrder.{order_tells}
use Rattle.bi_fdt.specs.Numbers.{HasNumber}
use Rattle.bi_fdt.specs.Order.{KeyedProperty, AreByNumber, sorted_properties}
use Rattle.bi_fdt.proofs.DistinctKeys.{one_name_each, names_stay_distinct}

-- Properties in the order of the ranks of their names are in byte order of their names.

-- ---- ranks

-- Of names in byte order, the first is before the one at an index.
pub first_before : (first : List ℕ) (names : List (List ℕ)) → IsStrictlySortedBy (slice_cmp nat_cmp) (first ∷ names) →
    (index : ℕ) (name : List ℕ) → slice_get names index ≡ Some name → slice_cmp nat_cmp first name ≡ Less
first_before first names ordered index name there =
    subst (λ n. slice_cmp nat_cmp first n ≡ Less) (get_or_from_slice_get names index name name there)
    (each-contains (λ n. slice_cmp nat_cmp first n ≡ Less) names (get_or names index name) (sorted_head
    (slice_cmp nat_cmp) first names ordered)
    (Contains-get_or names index name (slice_get_within names index name there)))

-- A name of less rank is before another.
rank_before : (names : List (List ℕ)) → IsStrictlySortedBy (slice_cmp nat_cmp) names → (rank other : ℕ) (name other_name : List ℕ) →
    slice_get names rank ≡ Some name → slice_get names other ≡ Some other_name → rank < other → slice_cmp nat_cmp name other_name ≡ Less
rank_before [] ordered rank other name other_name there other_there below = absurd cc
rank_before (first ∷ names) ordered rank zero name other_name there other_there below = absurd (omega arith)
rank_before (first ∷ names) ordered zero (suc other) name other_name there other_there below = search (rules, first_before)
rank_before (first ∷ names) ordered (suc rank) (suc other) name other_name there other_there below =
    rank_before names (sorted_tail (slice_cmp nat_cmp) first names ordered) rank other name other_name there other_there (omega arith)

-- ---- properties in the order of ranks

-- The properties without their keys and places.
abbrev named : List KeyedProperty → List Property
named keyed = map (λ one. property_of one.1) keyed

-- A name with a rank below others is before their names.
below_properties : (names : List (List ℕ)) → IsStrictlySortedBy (slice_cmp nat_cmp) names →
    (rank : ℕ) (name : List ℕ) → slice_get names rank ≡ Some name →
    (keyed : List KeyedProperty) → AllByRecursion (λ one. HasNumber names one.1 one.0) keyed →
    AllByRecursion (λ other. nat_cmp rank other ≡ Less) (keys_of keyed) → T (below_all (slice_cmp nat_cmp) name (named keyed))
below_properties names ascend rank name there [] numbered below = tt
below_properties names ascend rank name there (one ∷ keyed) numbered below =
    search (rules, both_hold, is_lt, rank_before, ranked, below_properties names ascend rank name there keyed numbered.1 below.1)

-- Properties in ascending order of ranks are in byte order of their names.
ascending_properties : (names : List (List ℕ)) → IsStrictlySortedBy (slice_cmp nat_cmp) names → (keyed : List KeyedProperty) →
    AllByRecursion (λ one. HasNumber names one.1 one.0) keyed → IsStrictlySortedBy nat_cmp (keys_of keyed) →
    T (is_sorted (slice_cmp nat_cmp) (named keyed))
ascending_properties names ascend [] numbered rise = tt
ascending_properties names ascend (one ∷ keyed) numbered rise =
    both_hold (below_all (slice_cmp nat_cmp) one.1.name (named keyed)) (is_sorted (slice_cmp nat_cmp) (named keyed))
    (below_properties names ascend one.0 one.1.name numbered.0 keyed numbered.1 (sorted_head nat_cmp one.0 (keys_of keyed) rise))
    (ascending_properties names ascend keyed numbered.1 (sorted_tail nat_cmp one.0 (keys_of keyed) rise))

-- ---- by name, in any order

-- What is found by a name among properties of distinct names is found in any order.
found_moved : (properties moved : List Property) → IsPermutation properties moved → IsDistinct one_name_each (keys_of moved) →
    (name value : List ℕ) → lookup (one_name_each name) properties ≡ Some value → lookup (one_name_each name) moved ≡ Some value
found_moved properties moved move distinct name value is =
    lookup-from_Contains (eq_by_cmp_equiv nat_list_cmp_total) name value moved distinct
    (Contains-permutation properties moved (name, value) move
    (Contains-from_lookup (λ x y equal. (bytes_eq-Decides x y).0 (sym (is_eq-slice_cmp x y) ∙ equal)) name value properties is))

lookup_moved : (properties moved : List Property) → IsPermutation properties moved → IsDistinct one_name_each (keys_of properties) →
    (name : List ℕ) → lookup (one_name_each name) moved ≡ lookup (one_name_each name) properties
lookup_moved properties moved move distinct name =
    by_result (lookup (one_name_each name) properties) refl (lookup (one_name_each name) moved) refl
  where
    by_result : (found : Option (List ℕ)) → lookup (one_name_each name) properties ≡ found → (other : Option (List ℕ)) →
        lookup (one_name_each name) moved ≡ other → lookup (one_name_each name) moved ≡ lookup (one_name_each name) properties
    by_result (Some value) is other other_is =
        found_moved properties moved move
        (IsDistinct-IsPermutation one_name_each (eq_by_cmp_equiv nat_list_cmp_total).symm (keys_of properties) (keys_of moved)
        (IsPermutation-map (λ (property : Property). property.0) properties moved move) distinct) name value is
        ∙ sym is
    by_result None is (Some value) other_is =
        other_is ∙ sym (found_moved moved properties (IsPermutation-sym properties moved move) distinct name value other_is)
    by_result None is None other_is = other_is ∙ sym is

-- A look-up finds what a scan finds.
find_is : (name : List ℕ) (properties : List Property) → find (slice_cmp nat_cmp) name properties ≡ lookup (one_name_each name) properties
find_is name [] = refl
find_is name (property ∷ properties) = ap (cond (one_name_each name property.0) (Some property.1)) (find_is name properties)

-- The same properties in byte order are those by name.
sorted_by_name : (properties moved : List Property) → AreDistinct (map (λ property. property.0) properties) →
    IsPermutation properties moved → T (is_sorted (slice_cmp nat_cmp) moved) → moved ≡ sorted_properties properties
sorted_by_name properties moved distinct is_moved sorted =
    sym (entries-from_sorted (slice_cmp nat_cmp) moved sorted)
    ∙ ap entries (same_map nat_list_cmp_total order_tells (from_sorted moved) (from_entries properties) (λ name.
    get-from_sorted (slice_cmp nat_cmp) moved name sorted
    ∙ find_is name moved
    ∙ lookup_moved properties moved is_moved (names_stay_distinct (map (λ (property : Property). property.0) properties) distinct) name
    ∙ sym (find_is name properties)
    ∙ sym (get-from_entries nat_list_cmp_total properties name)))

-- ---- both together

-- The properties without their keys, as those of a file without their places.
named_twice : (keyed : List KeyedProperty) → map property_of (map (λ one. one.1) keyed) ≡ named keyed
named_twice [] = refl
named_twice (one ∷ keyed) = ap (λ l. property_of one.1 ∷ l) (named_twice keyed)

-- They are those of a node in another order.
named_moved : (properties : List FileProperty) (keyed : List KeyedProperty) → IsPermutation properties (map (λ one. one.1) keyed) →
    IsPermutation (map property_of properties) (named keyed)
named_moved properties keyed moved = search (rules, named_twice, IsPermutation-map)

-- What a node has by a name is found by it in any order.
pub found_by_name : (properties : List FileProperty) (keyed : List KeyedProperty) → IsPermutation properties (map (λ one. one.1) keyed) →
    AreDistinct (map (λ property. property.0) (map property_of properties)) → (name : List ℕ) →
    get (from_entries {R = slice_cmp nat_cmp} (map property_of properties)) name
    ≡ lookup (one_name_each name) (map (λ one. property_of one.1) keyed)
found_by_name properties keyed moved distinct name =
    get-from_entries nat_list_cmp_total (map property_of properties) name
    ∙ find_is name (map property_of properties)
    ∙ sym (lookup_moved (map property_of properties) (named keyed) (named_moved properties keyed moved)
    (names_stay_distinct (map (λ (property : Property). property.0) (map property_of properties)) distinct) name)

-- The properties of a node by the ranks of their names are in byte order.
pub by_rank_by_name : (names : List (List ℕ)) (properties : List FileProperty) (keyed : List KeyedProperty) →
    IsStrictlySortedBy (slice_cmp nat_cmp) names → AreDistinct (map (λ property. property.0) (map property_of properties)) →
    AreByNumber names properties keyed → named keyed ≡ sorted_properties (map property_of properties)
by_rank_by_name names properties keyed ascend distinct are = search (rules, sorted_by_name, named_moved, ascending_properties)
