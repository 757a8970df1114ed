use Rattle.std.specs.Prelude.{◌≡◌, ℕ, ◌+◌, List, [], ◌∷◌, length, map, take, drop, Option, Some}
use Rattle.std.specs.Prelude.{None, MatchOption, IsPermutation, slice_get}
use Rattle.std.specs.Cmp.Lexicographic.{slice_cmp}
use Rattle.std.specs.FinMap.{from_entries, entries}
use Rattle.std.specs.List.{AllByRecursion}
use Rattle.std.specs.List.Sorted.{IsNonDecreasingBy, IsStrictlySortedBy}
use Rattle.std.specs.Map.{keys_of}
use Rattle.std.specs.Ordering.{nat_cmp}
use Rattle.bi_blob.specs.Tree.{FileProperty, Property as NamedValue}
use Rattle.bi_fdt.specs.declared.table.Property.{Property}
use Rattle.bi_fdt.specs.Numbers.{HasNumber, AreNumbered}
use Rattle.bi_fdt.specs.Properties.{file_property_of}
use Rattle.bi_fdt.specs.TableItems.{TableItem, NodeItem, PropertyItem}
use Rattle.bi_fdt.specs.Views.{HasNodeAt, node_in}

-- The properties of each node of a table in the order of keys, one for each item of the table.

-- A property after its key.
abbrev pub KeyedProperty : Type 0
KeyedProperty = ℕ × FileProperty

-- These keys, each before its index, if the first has this index.
abbrev pub with_indices_from : (index : ℕ) → (keys : List ℕ) → List (ℕ × ℕ)
with_indices_from index [] = []
with_indices_from index (key ∷ later) = (key, index) ∷ with_indices_from (index + 1) later

-- Of pairs for all items of a table, those for the properties of the node at an index.
abbrev pub pairs_of_node : List TableItem → (index : ℕ) → List (ℕ × ℕ) → List (ℕ × ℕ)
pairs_of_node table index pairs =
    take (length (node_in table index).own.properties) (drop (index + 1) pairs)

-- These are the same pairs, in the order of their keys.
pub record AreInOrder (pairs ordered : List (ℕ × ℕ)) : Type 0 where
  pub permutation : IsPermutation pairs ordered
  pub in_order : IsNonDecreasingBy (λ keyed. keyed.0) ordered

-- The keys of the items of a table, each before its index, with those of the properties of each
-- node in order.
pub record IsPropertyOrder (table : List TableItem) (keys : List ℕ) (order : List (ℕ × ℕ))
    : Type 0 where
  pub count : length order ≡ length table
  pub each : (index : ℕ) → HasNodeAt table index → AreInOrder
      (pairs_of_node table index (with_indices_from 0 keys)) (pairs_of_node table index order)

-- The properties of each node of a table are in the order of the numbers of their names.
pub record IsNumberOrder (names : List (List ℕ)) (table : List TableItem) (order : List (ℕ × ℕ))
    : Type 0 where
  pub keys : List ℕ
  pub numbered : AreNumbered names table keys
  pub ordered : IsPropertyOrder table keys order

-- A property with this key before others, if an item of a table is a property.
abbrev pub with_keyed_property : (key : ℕ) → Option TableItem → List KeyedProperty
    → List KeyedProperty
with_keyed_property key None later = []
with_keyed_property key (Some (NodeItem depth place name)) later = []
with_keyed_property key (Some (PropertyItem property)) later = (key, property) ∷ later

-- The properties at the indices of these pairs in a table, up to the first index that is not that
-- of a property.
abbrev pub keyed_properties : List TableItem → List (ℕ × ℕ) → List KeyedProperty
keyed_properties table [] = []
keyed_properties table (keyed ∷ later) =
    with_keyed_property keyed.0 (slice_get table keyed.1) (keyed_properties table later)

-- A call that takes the first of some properties and leaves the others, or returns None if none are
-- left.
abbrev pub GivesKeyedProperty : List KeyedProperty → Option (ℕ × Property) → List KeyedProperty
    → Type 0
GivesKeyedProperty old result new = MatchOption result ((old ≡ []) × (new ≡ []))
    (λ keyed. old ≡ (keyed.0, file_property_of keyed.1) ∷ new)

-- These are the properties of a node, each after the number of its name, in ascending order of the
-- numbers.
pub record AreByNumber (names : List (List ℕ)) (properties : List FileProperty)
    (keyed : List KeyedProperty) : Type 0 where
  pub permutation : IsPermutation properties (map (λ one. one.1) keyed)
  pub numbered : AllByRecursion (λ one. HasNumber names one.1 one.0) keyed
  pub ascending : IsStrictlySortedBy nat_cmp (keys_of keyed)

-- These properties in byte order of their names, each name once.
abbrev pub sorted_properties : List NamedValue → List NamedValue
sorted_properties properties = entries (from_entries {R = slice_cmp nat_cmp} properties)
