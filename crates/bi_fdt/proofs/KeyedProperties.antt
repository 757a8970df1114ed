use Rattle.std.proofs.Common.{◌≡◌, ℕ, zero, suc, ◌+◌, ◌<◌, ◌≤◌, List, [], ◌∷◌, length, map, take, drop, get_or, Some, slice_get, rules}
use Rattle.std.proofs.Common.{IsPermutation, refl, sym, ap, subst, ◌∙◌, add-one, arith}
use Rattle.std.specs.Prelude.{nat_eq}
use Rattle.std.specs.Cmp.{nat_eq_equiv}
use Rattle.std.specs.List.{AllByRecursion, AllZip, IsDistinct}
use Rattle.std.specs.List.Sorted.{IsNonDecreasing, IsNonDecreasingBy}
use Rattle.std.specs.Map.{keys_of}
use Rattle.std.proofs.lemmas.List.{get_or-map, length-map}
use Rattle.std.proofs.lemmas.List.Elements.{All-from_recursion, recursion_from_All}
use Rattle.std.proofs.lemmas.List.Sorted.{All-permutation, IsPermutation-map}
use Rattle.std.proofs.lemmas.Map.Keys.{sorted_from_strictly_increasing, IsDistinct-IsPermutation, IsStrictlyIncreasing-from_distinct}
use Rattle.std.proofs.Math.Seq.{drop-cons}
use Rattle.std.proofs.lemmas.Option.{get_or_from_slice_get, slice_get-get_or, slice_get-map, slice_get_past}
use Rattle.bi_fdt.specs.declared.table.Entry.{Entry}
use Rattle.std.proofs.lemmas.Slice.Zip.{AllZip-long}
use Rattle.bi_blob.specs.Tree.{FileProperty, property_of, AreDistinct}
use Rattle.bi_fdt.specs.declared.table.NodeEntry.{NodeEntry}
use Rattle.bi_fdt.specs.Fields.{IsNodeOf}
use Rattle.bi_fdt.specs.Numbers.{HasNumber}
use Rattle.bi_fdt.specs.Order.{KeyedProperty, with_indices_from, pairs_of_node, AreInOrder, IsNumberOrder, with_keyed_property}
use Rattle.bi_fdt.specs.Order.{keyed_properties}
use Rattle.bi_fdt.specs.Order.{AreByNumber}
use Rattle.bi_fdt.specs.Table.{item_in}
use Rattle.bi_fdt.specs.TableItems.{TableItem, NodeItem, PropertyItem, first_properties}
use Rattle.bi_fdt.specs.Views.{HasNodeAt, node_in}
use Rattle.bi_fdt.proofs.DistinctNumbers.{distinct_numbers}
use Rattle.bi_fdt.proofs.GrowingTables.{get_at}
use Rattle.bi_fdt.proofs.NodeEntries.{drop-next}
use Rattle.bi_fdt.specs.Content.{first_sibling}
use Rattle.std.specs.Ordering.{nat_cmp}
use Rattle.std.specs.List.Sorted.{IsStrictlySortedBy}
use Rattle.bi_fdt.proofs.NodeViews.{property_count_is, after_node}
use Rattle.bi_fdt.proofs.NumberedTables.{numbers_there}

-- The properties at the indices of the pairs of a node are its properties, in the order of their keys.

abbrev Pairs : Type 0
Pairs = List (ℕ × ℕ)

-- ---- the pairs of a node

drop-indices : (count index : ℕ) (keys : List ℕ) → drop count (with_indices_from index keys) ≡ with_indices_from (index + count)
    (drop count keys)
drop-indices zero index keys = ap (λ n. with_indices_from n keys) (omega arith)
drop-indices (suc count) index [] = refl
drop-indices (suc count) index (key ∷ keys) = search (rules, drop-indices count (index + 1) keys)

take-indices : (count index : ℕ) (keys : List ℕ) → take count (with_indices_from index keys) ≡ with_indices_from index (take count keys)
take-indices zero index keys = refl
take-indices (suc count) index [] = refl
take-indices (suc count) index (key ∷ keys) = ap (λ l. (key, index) ∷ l) (take-indices count (index + 1) keys)

keys_of-indices : (index : ℕ) (keys : List ℕ) → keys_of (with_indices_from index keys) ≡ keys
keys_of-indices index [] = refl
keys_of-indices index (key ∷ keys) = ap (λ l. key ∷ l) (keys_of-indices (index + 1) keys)

-- A pair has the index of a property.
abbrev IsPairOf : List TableItem → ℕ × ℕ → FileProperty → Type 0
IsPairOf table pair property = slice_get table pair.1 ≡ Some (PropertyItem property)

-- The properties that items begin with are at the indices of the items.
pairs_match : (table items : List TableItem) (index : ℕ) (keys : List ℕ) → drop index table ≡ items →
    length keys ≡ length (first_properties items) → AllZip (IsPairOf table) (with_indices_from index keys) (first_properties items)
pairs_match table [] index [] here long = tt
pairs_match table [] index (key ∷ keys) here long = absurd (omega arith)
pairs_match table (NodeItem depth place name ∷ items) index [] here long = tt
pairs_match table (NodeItem depth place name ∷ items) index (key ∷ keys) here long = absurd (omega arith)
pairs_match table (PropertyItem property ∷ items) index [] here long = absurd (omega arith)
pairs_match table (PropertyItem property ∷ items) index (key ∷ keys) here long =
    let next : index + 1 ≡ index + 1 + 0 = omega arith in (
      get_at table items index (PropertyItem property) here,
      pairs_match table items (index + 1) keys (ap (λ n. drop n table) next ∙ drop-next table items index 0 (PropertyItem property) here)
          (omega arith),
    )

-- ---- properties at indices

-- The property of an item, or an empty one.
abbrev property_in_item : TableItem → FileProperty
property_in_item (NodeItem depth place name) = record { name = []; value = []; place = 0 }
property_in_item (PropertyItem property) = property

-- The property at the index of a pair, if there is one.
abbrev property_at : List TableItem → ℕ × ℕ → FileProperty
property_at table pair = property_in_item (get_or table pair.1 (NodeItem 0 0 []))

is_property_at : (table : List TableItem) (pair : ℕ × ℕ) (property : FileProperty) → IsPairOf table pair property →
    property_at table pair ≡ property
is_property_at table pair property is = search (rules, get_or_from_slice_get)

-- There is one.
abbrev HasProperty : List TableItem → ℕ × ℕ → Type 0
HasProperty table pair = (property : FileProperty) × IsPairOf table pair property

-- So none is left out.
keyed_all : (table : List TableItem) (pairs : Pairs) → AllByRecursion (HasProperty table) pairs →
    keyed_properties table pairs ≡ map (λ pair. (pair.0, property_at table pair)) pairs
keyed_all table [] all = refl
keyed_all table (pair ∷ pairs) all = search (rules, is_property_at, keyed_all table pairs all.1)

-- Pairs of properties have the properties at their indices.
matching_have : (table : List TableItem) (pairs : Pairs) (properties : List FileProperty) → AllZip (IsPairOf table) pairs properties →
    AllByRecursion (HasProperty table) pairs
matching_have table [] [] match = tt
matching_have table [] (property ∷ properties) match = elim match [ ]
matching_have table (pair ∷ pairs) [] match = elim match [ ]
matching_have table (pair ∷ pairs) (property ∷ properties) match = ((property, match.0), matching_have table pairs properties match.1)

matching_are : (table : List TableItem) (pairs : Pairs) (properties : List FileProperty) → AllZip (IsPairOf table) pairs properties →
    map (property_at table) pairs ≡ properties
matching_are table [] [] match = refl
matching_are table [] (property ∷ properties) match = elim match [ ]
matching_are table (pair ∷ pairs) [] match = elim match [ ]
matching_are table (pair ∷ pairs) (property ∷ properties) match =
    search (rules, is_property_at, matching_are table pairs properties match.1)

-- The key of a pair is the number of the name of its property.
abbrev IsKeyed : List (List ℕ) → List TableItem → ℕ × ℕ → Type 0
IsKeyed names table pair = HasNumber names (property_at table pair) pair.0

matching_keyed : (names : List (List ℕ)) (table : List TableItem) (index : ℕ) (keys : List ℕ) (properties : List FileProperty) →
    AllZip (IsPairOf table) (with_indices_from index keys) properties → AllZip (HasNumber names) properties keys →
    AllByRecursion (IsKeyed names table) (with_indices_from index keys)
matching_keyed names table index [] [] match numbered = tt
matching_keyed names table index [] (property ∷ properties) match numbered = elim match [ ]
matching_keyed names table index (key ∷ keys) [] match numbered = elim match [ ]
matching_keyed names table index (key ∷ keys) (property ∷ properties) match numbered = (
  subst (λ p. HasNumber names p key) (sym (is_property_at table (key, index) property match.0)) numbered.0,
  matching_keyed names table (index + 1) keys properties match.1 numbered.1,
)

-- ---- in the order of their keys

-- What is made of pairs has their properties, their keys and their numbers.
properties-keyed : (table : List TableItem) (pairs : Pairs) →
    map (λ (one : KeyedProperty). one.1) (map (λ pair. (pair.0, property_at table pair)) pairs) ≡ map (property_at table) pairs
properties-keyed table [] = refl
properties-keyed table (pair ∷ pairs) = ap (λ l. property_at table pair ∷ l) (properties-keyed table pairs)

keys-keyed : (table : List TableItem) (pairs : Pairs) → keys_of (map (λ pair. (pair.0, property_at table pair)) pairs) ≡ keys_of pairs
keys-keyed table [] = refl
keys-keyed table (pair ∷ pairs) = ap (λ l. pair.0 ∷ l) (keys-keyed table pairs)

numbers-keyed : (names : List (List ℕ)) (table : List TableItem) (pairs : Pairs) → AllByRecursion (IsKeyed names table) pairs →
    AllByRecursion (λ (one : KeyedProperty). HasNumber names one.1 one.0) (map (λ pair. (pair.0, property_at table pair)) pairs)
numbers-keyed names table [] all = tt
numbers-keyed names table (pair ∷ pairs) all = (all.0, numbers-keyed names table pairs all.1)

-- What holds of each pair holds of each in another order.
all_moved : (P : ℕ × ℕ → Type 0) (pairs moved : Pairs) → IsPermutation pairs moved → AllByRecursion P pairs → AllByRecursion P moved
all_moved P pairs moved move all = recursion_from_All P moved (All-permutation P pairs moved move (All-from_recursion P pairs all))

-- Pairs in the order of their keys have keys in order.
keys_in_order : (pairs : Pairs) → IsNonDecreasingBy (λ pair. pair.0) pairs → IsNonDecreasing (keys_of pairs)
keys_in_order [] rising i j d least within = absurd (omega arith)
keys_in_order (pair ∷ pairs) rising i j d least within =
    let all = pair ∷ pairs in
    let short : j < length all = omega (arith, length-map all (λ (pair : ℕ × ℕ). pair.0)) in
    omega (
      arith,
      get_or-map (λ (pair : ℕ × ℕ). pair.0) all i pair d (omega arith),
      get_or-map (λ
          (pair : ℕ × ℕ). pair.0) all j pair d short,
      rising i j pair least short,
    )

-- The properties of a node are by the numbers of their names.
pub node_by_number : (file : List ℕ) (table : List TableItem) (index : ℕ) (n : NodeEntry) → IsNodeOf file table index n →
    HasNodeAt table index → (names : List (List ℕ)) (order : Pairs) → IsNumberOrder names table order →
    AreDistinct (map (λ property. property.0) (map property_of (node_in table index).own.properties)) →
    AreByNumber names (node_in table index).own.properties (keyed_properties table (pairs_of_node table index order))
node_by_number file table index n there is_node names order is distinct = record {
  permutation = subst (IsPermutation properties) (sym (ap (map (λ (one : KeyedProperty). one.1)) all ∙ properties-keyed table now))
      (subst (λ l. IsPermutation l (map (property_at table) now)) (matching_are table given properties match)
      (IsPermutation-map (property_at table) given now moved));
  numbered = subst (AllByRecursion (λ (one : KeyedProperty). HasNumber names one.1 one.0)) (sym all)
      (numbers-keyed names table now (all_moved (IsKeyed names table) given now moved
      (matching_keyed names table (index + 1) keys properties match numbered)));
  ascending = subst (λ l. IsStrictlySortedBy nat_cmp l) (sym (ap keys_of all ∙ keys-keyed table now))
      (sorted_from_strictly_increasing (keys_of now)
      (IsStrictlyIncreasing-from_distinct (keys_of now) (keys_in_order now sorted.in_order)
      (IsDistinct-IsPermutation nat_eq nat_eq_equiv.symm (keys_of given) (keys_of now) (IsPermutation-map (λ
      (pair : ℕ × ℕ). pair.0) given now moved)
      (subst (IsDistinct nat_eq) (sym (keys_of-indices (index + 1) keys)) (distinct_numbers names properties keys distinct numbered)))));
} where
  properties : List FileProperty
  properties = (node_in table index).own.properties

  now : Pairs
  now = pairs_of_node table index order

  keys : List ℕ
  keys = take (length properties) (drop (index + 1) is.keys)

  given : Pairs
  given = with_indices_from (index + 1) keys

  given_is : pairs_of_node table index (with_indices_from 0 is.keys) ≡ given
  given_is =
      ap (take (length properties)) (drop-indices (index + 1) 0 is.keys)
      ∙ take-indices (length properties) (0 + (index + 1)) (drop (index + 1) is.keys)
      ∙ ap (λ k. with_indices_from k keys) (omega arith)

  sorted : AreInOrder (pairs_of_node table index (with_indices_from 0 is.keys)) now
  sorted = is.ordered.each index is_node

  moved : IsPermutation given now
  moved = subst (λ l. IsPermutation l now) given_is sorted.permutation

  numbered : AllZip (HasNumber names) properties keys
  numbered =
      subst (λ k. AllZip (HasNumber names) properties (take k (drop (index + 1) is.keys))) (property_count_is file table index n there)
      (numbers_there file table index n there names is.keys is.numbered)

  properties_are : properties ≡ first_properties there.later
  properties_are = ap (λ items. (first_sibling items).own.properties) there.is_at

  match : AllZip (IsPairOf table) given properties
  match =
      let next : index + 1 ≡ index + 1 + 0 = omega arith in
      subst (AllZip (IsPairOf table) given) (sym properties_are)
      (pairs_match table there.later (index + 1) keys (ap (λ k. drop k table) next ∙ after_node file table index n there 0)
      (AllZip-long (HasNumber names) properties keys numbered ∙ ap length properties_are))

  all : keyed_properties table now ≡ map (λ pair. (pair.0, property_at table pair)) now
  all = keyed_all table now (all_moved (HasProperty table) given now moved (matching_have table given properties match))

-- ---- one after the other

-- What the properties at the indices from a place on begin with.
keyed_here : (table : List TableItem) (pairs : Pairs) (place : ℕ) (d : ℕ × ℕ) → place < length pairs →
    keyed_properties table (drop place pairs)
    ≡ with_keyed_property (get_or pairs place d).0 (slice_get table (get_or pairs place d).1)
    (keyed_properties table (drop (place + 1) pairs))
keyed_here table pairs place d within = search (rules, drop-cons, add-one)

-- The item of an entry.
item_there : (file : List ℕ) (entries : List Entry) (index : ℕ) (e d : Entry) → index < length entries → get_or entries index d ≡ e →
    slice_get (map (item_in file) entries) index ≡ Some (item_in file e)
item_there file entries index e d within is = search (rules, slice_get-map, slice_get-get_or)

module _ (file : List ℕ) (entries : List Entry) (pairs : Pairs) (place : ℕ) (pair d : ℕ × ℕ) (within : place < length pairs)
    (is : get_or pairs place d ≡ pair) where
  -- Without an entry there is none.
  pub none_past : length entries ≤ pair.1 → keyed_properties (map (item_in file) entries) (drop place pairs) ≡ []
  none_past past =
      keyed_here (map (item_in file) entries) pairs place d within
      ∙ ap (λ p. with_keyed_property p.0 (slice_get (map (item_in file) entries) p.1) (keyed_properties (map (item_in file) entries) (drop
      (place + 1) pairs))) is
      ∙ ap (λ found. with_keyed_property pair.0 found (keyed_properties (map (item_in file) entries) (drop (place + 1) pairs)))
      (slice_get_past (map (item_in file) entries) pair.1 (omega (arith, past, length-map entries (item_in file))))

  -- The item of an entry is what decides.
  pub keyed_item : (e f : Entry) → pair.1 < length entries → get_or entries pair.1 f ≡ e →
      keyed_properties (map (item_in file) entries) (drop place pairs)
      ≡ with_keyed_property pair.0 (Some (item_in file e)) (keyed_properties (map (item_in file) entries) (drop (place + 1) pairs))
  keyed_item e f inside entry_is =
      keyed_here (map (item_in file) entries) pairs place d within
      ∙ ap (λ p. with_keyed_property p.0 (slice_get (map (item_in file) entries) p.1) (keyed_properties (map (item_in file) entries) (drop
      (place + 1) pairs))) is
      ∙ ap (λ found. with_keyed_property pair.0 found (keyed_properties (map (item_in file) entries) (drop (place + 1) pairs)))
      (item_there file entries pair.1 e f inside entry_is)
