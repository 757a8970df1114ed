use Rattle.std.specs.Prelude.{ℕ, ◌+◌, Bool, true, false, List, [], ◌∷◌, ◌++◌, map, set}
use Rattle.std.specs.Prelude.{slice_index_or}
use Rattle.std.specs.Prelude.{◌<◌, length, flat_map, Contains}
use Rattle.std.specs.Cmp.Lexicographic.{slice_cmp}
use Rattle.std.specs.FinMap.{entries}
use Rattle.std.specs.List.{AllByRecursion}
use Rattle.std.specs.List.Sorted.{IsStrictlySortedBy}
use Rattle.std.specs.Ordering.{nat_cmp}
use Rattle.std.specs.Borrow.{Bor}
use Rattle.bi_base.specs.Slices.{bytes_of}
use Rattle.bi_blob.specs.Tree.{Nodes, none, node, Root, Property, AreDistinct, EachOwn, with_each}
use Rattle.bi_blob.specs.Events.{Event, NodeStart, NodeProperty}
use Rattle.bi_fdt.specs.declared.ranks.NameRanks.{NameRanks}
use Rattle.bi_fdt.specs.Numbers.{IsNumberOf}
use Rattle.bi_fdt.specs.TableItems.{TableItem, NodeItem, PropertyItem}
use Rattle.bi_lay.specs.Contents.{name_numbered}
use Rattle.bi_fit.specs.LongNames.{name_if_long}
use Rattle.bi_tree.specs.Properties.{TreePropertyModel, own_property_names}
use Rattle.bi_tree.specs.Trees.{by_name}

-- The names of the properties of a tree that is written, and their ranks.

-- A node with this name, without those after it.
abbrev pub alone_named : {Own : Type 0} → (name : List ℕ) → Root Own → Nodes Own
alone_named name below = node name below.own below.children none

-- Properties in byte order of their names.
abbrev pub sorted_own : List TreePropertyModel → List Property
sorted_own properties = entries (by_name properties)

-- The events with which a node begins: its start and its properties, in byte order.
abbrev pub start_events : (name : List ℕ) → List TreePropertyModel → List Event
start_events name properties = NodeStart name ∷ map NodeProperty (sorted_own properties)

-- Nodes with the properties of each in byte order of their names.
abbrev pub sorted_models : Nodes (List TreePropertyModel) → Nodes (List Property)
sorted_models nodes = with_each sorted_own nodes

-- The numbers of the names of these properties.
abbrev pub own_numbers : List TreePropertyModel → List ℕ
own_numbers properties = map (λ property. property.number) properties

-- The numbers of the names of the properties of these nodes and of all below them.
abbrev pub all_numbers : Nodes (List TreePropertyModel) → List ℕ
all_numbers none = []
all_numbers (node name own children later) =
    own_numbers own ++ (all_numbers children ++ all_numbers later)

-- The names of the properties of these nodes and of all below them.
abbrev pub all_names : Nodes (List TreePropertyModel) → List (List ℕ)
all_names none = []
all_names (node name own children later) =
    own_property_names own ++ (all_names children ++ all_names later)

-- Marks, with those at these numbers set.
abbrev pub with_marks : List ℕ → List Bool → List Bool
with_marks [] marks = marks
with_marks (number ∷ later) marks = with_marks later (set marks number true)

-- The names that have a mark.
abbrev pub marked_names : List (List ℕ) → List Bool → List (List ℕ)
marked_names [] marks = []
marked_names (name ∷ names) [] = []
marked_names (name ∷ names) (true ∷ marks) = name ∷ marked_names names marks
marked_names (name ∷ names) (false ∷ marks) = marked_names names marks

-- How many names with a mark are before each, if so many are before the first.
abbrev pub marked_numbers : (count : ℕ) → List (List ℕ) → List Bool → List ℕ
marked_numbers count [] marks = []
marked_numbers count (name ∷ names) [] = []
marked_numbers count (name ∷ names) (true ∷ marks) = count ∷ marked_numbers (count + 1) names marks
marked_numbers count (name ∷ names) (false ∷ marks) = count ∷ marked_numbers count names marks

-- An item of a table for each of these names: a property with the name if it has a mark.
abbrev pub marked_table : List (List ℕ) → List Bool → List TableItem
marked_table [] marks = []
marked_table (name ∷ names) [] = []
marked_table (name ∷ names) (true ∷ marks) =
    PropertyItem (record { name = name; value = []; place = 0 }) ∷ marked_table names marks
marked_table (name ∷ names) (false ∷ marks) = NodeItem 0 0 [] ∷ marked_table names marks

-- Properties have distinct names, and these names have the ranks at the numbers that they give.
pub record AreRanked (sorted : List (List ℕ)) (ranks : List ℕ) (properties : List TreePropertyModel)
    : Type 0 where
  pub distinct : AreDistinct (own_property_names properties)
  pub ranked : AllByRecursion
      (λ property. IsNumberOf sorted property.name (slice_index_or ranks property.number 0))
      properties

-- Properties by the ranks of their names, with their values.
abbrev pub named_entries : List (List ℕ) → List (ℕ × Bor (List ℕ)) → List Property
named_entries names entries = map (λ entry. (name_numbered names entry.0, entry.1.now)) entries

-- Values after ranks, and those of properties after the ranks at the numbers of their names.
abbrev pub ranked_values : List (ℕ × Bor (List ℕ)) → List (ℕ × List ℕ)
ranked_values entries = map (λ entry. (entry.0, entry.1.now)) entries

abbrev pub values_by_rank : (ranks : List ℕ) → List TreePropertyModel → List (ℕ × List ℕ)
values_by_rank ranks properties =
    map (λ property. (slice_index_or ranks property.number 0, property.value)) properties

-- So do those of each of these nodes.
abbrev pub AreRankedNodes : List (List ℕ) → List ℕ → Nodes (List TreePropertyModel) → Type 0
AreRankedNodes sorted ranks nodes = EachOwn (AreRanked sorted ranks) nodes

-- Names of properties of these nodes are distinct, and the long ones are together longer than the
-- limit.
abbrev pub HaveLongNames : (limit : ℕ) → Nodes (List TreePropertyModel) → Type 0
HaveLongNames limit nodes =
    (names : List (List ℕ)) × AreDistinct names × AllByRecursion (Contains (all_names nodes)) names
    × (limit < length (flat_map name_if_long names))

-- Names in byte order, and the rank of each of those that properties of these nodes have, at the
-- number that the property gives.
pub record HasRanks (nodes : Nodes (List TreePropertyModel)) (ranked : NameRanks) : Type 0 where
  pub in_order : IsStrictlySortedBy (slice_cmp nat_cmp) (bytes_of ranked.names.items)
  pub ranks : AreRankedNodes (bytes_of ranked.names.items) ranked.ranks.items nodes
