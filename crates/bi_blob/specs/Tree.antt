use Rattle.std.specs.Prelude.{◌≢◌, ℕ, ◌+◌, max, List, [], ◌∷◌, map, T, ⊤}
use Rattle.std.specs.List.{AllByRecursion}
use Rattle.std.specs.Ordering.{nat_cmp}
use Rattle.std.specs.Cmp.Lexicographic.{slice_cmp}
use Rattle.std.specs.FinMap.{FinMap, from_entries, is_sorted}

-- The tree of a devicetree (Devicetree Specification, 2.2). `Own` is the type of what a node has
-- itself, in addition to its name and its children: a list of properties, a finite map of them, or
-- its place in a file with properties and their places.

-- A list of nodes: none, or a first node and the nodes after it (2.2).
pub data Nodes (Own : Type 0) : Type 0 where
  none : Nodes Own
  node : (name : List ℕ) → (own : Own) → (children : Nodes Own) → (later : Nodes Own) → Nodes Own

-- The node that no node has as a child. Its name is empty (2.2.1, 5.4.1).
pub record Root (Own : Type 0) : Type 0 where
  pub own : Own
  pub children : Nodes Own

-- A root as a list of one node.
abbrev pub as_nodes : {Own : Type 0} → Root Own → Nodes Own
as_nodes root = node [] root.own root.children none

-- The names of the nodes of a list, in order.
abbrev pub names : {Own : Type 0} → Nodes Own → List (List ℕ)
names none = []
names (node name own children later) = name ∷ names later

-- The same nodes, with what each has itself changed by a function.
abbrev pub with_each : {A B : Type 0} → (A → B) → Nodes A → Nodes B
with_each change none = none
with_each change (node name own children later) =
    node name (change own) (with_each change children) (with_each change later)

-- The same tree, with what each node has itself changed by a function.
abbrev pub with_each_node : {A B : Type 0} → (A → B) → Root A → Root B
with_each_node change root =
    record { own = change root.own; children = with_each change root.children }

-- The number of nodes on the longest line of descent of these nodes: at most that many are open at
-- once.
abbrev pub depth : {Own : Type 0} → Nodes Own → ℕ
depth none = 0
depth (node name own children later) = max (depth children + 1) (depth later)

-- The depth of a tree: the number of nodes on its longest line of descent, including its root.
abbrev pub depth_of : {Own : Type 0} → Root Own → ℕ
depth_of root = depth (as_nodes root)

-- How many nodes these are, with all below them.
abbrev pub node_count : {Own : Type 0} → Nodes Own → ℕ
node_count none = 0
node_count (node name own children later) = node_count children + node_count later + 1

-- The number of the nodes of a tree, including its root.
abbrev pub node_count_of : {Own : Type 0} → Root Own → ℕ
node_count_of root = node_count (as_nodes root)

-- A property: its name and its value (2.2.4).
abbrev pub Property : Type 0
Property = List ℕ × List ℕ

-- The properties of a node by their names, in no order.
abbrev pub PropertyMap : Type 0
PropertyMap = FinMap (slice_cmp nat_cmp) (List ℕ)

-- A property in a file. Its place is the offset of its FDT_PROP token (5.4.1).
pub record FileProperty : Type 0 where
  pub name : List ℕ
  pub value : List ℕ
  pub place : ℕ

-- What a node has itself in a file. Its place is the offset of its FDT_BEGIN_NODE token (5.4.1).
pub record FileNode : Type 0 where
  pub place : ℕ
  pub properties : List FileProperty

-- A property without its place.
abbrev pub property_of : FileProperty → Property
property_of placed = (placed.name, placed.value)

-- The properties of a node without the places.
abbrev pub properties_of : FileNode → List Property
properties_of with_places = map property_of with_places.properties

-- A tree of a file without the places.
abbrev pub tree_without_places : Root FileNode → Root (List Property)
tree_without_places root = with_each_node properties_of root

-- A tree without the order of the properties. The order of the children stays.
abbrev pub tree_without_order : Root (List Property) → Root PropertyMap
tree_without_order root = with_each_node from_entries root

-- No byte of this name is zero, so a zero byte ends it (5.4.1, 5.5).
abbrev pub HasNoZero : List ℕ → Type 0
HasNoZero name = AllByRecursion (λ byte. byte ≢ 0) name

-- A name that a node other than the root may have (2.2.1; that any byte but zero and `/` is
-- allowed is profile of this project).
pub record IsChildName (name : List ℕ) : Type 0 where
  pub some : name ≢ []
  pub no_zero : HasNoZero name
  pub no_slash : AllByRecursion (λ byte. byte ≢ 47) name

-- A name that a property may have (2.2.4; that any byte but zero is allowed is profile of this
-- project).
pub record IsPropertyName (name : List ℕ) : Type 0 where
  pub some : name ≢ []
  pub no_zero : HasNoZero name

-- None of these names is this one.
abbrev pub IsNew : List ℕ → List (List ℕ) → Type 0
IsNew name others = AllByRecursion (λ other. other ≢ name) others

-- No two of these names are the same.
abbrev pub AreDistinct : List (List ℕ) → Type 0
AreDistinct [] = ⊤
AreDistinct (name ∷ later) = IsNew name later × AreDistinct later

-- Properties that one node may have: their names are valid and distinct (2.2.4; that they must be
-- distinct is profile of this project).
pub record AreProperties (properties : List Property) : Type 0 where
  pub named : AllByRecursion (λ property. IsPropertyName property.0) properties
  pub distinct : AreDistinct (map (λ property. property.0) properties)

-- A node other than the root that a tree may have, if the siblings after it have these names
-- (2.2.1).
pub record IsNode {Own : Type 0} (IsOwn : Own → Type 0) (name : List ℕ) (own : Own)
    (later_names : List (List ℕ)) : Type 0 where
  pub is_name : IsChildName name
  pub is_own : IsOwn own
  pub is_new : IsNew name later_names

-- Siblings that a tree may have, with all nodes below them.
abbrev pub AreNodes : {Own : Type 0} → (Own → Type 0) → Nodes Own → Type 0
AreNodes IsOwn none = ⊤
AreNodes IsOwn (node name own children later) =
    IsNode IsOwn name own (names later) × AreNodes IsOwn children × AreNodes IsOwn later

-- A tree that a blob can hold, if its nodes have what `IsOwn` requires.
pub record IsTree {Own : Type 0} (IsOwn : Own → Type 0) (root : Root Own) : Type 0 where
  pub is_own : IsOwn root.own
  pub children : AreNodes IsOwn root.children

-- What each of these nodes and all below them have themselves meets a condition.
abbrev pub EachOwn : {Own : Type 0} → (Own → Type 0) → Nodes Own → Type 0
EachOwn IsOwn none = ⊤
EachOwn IsOwn (node name own children later) =
    IsOwn own × EachOwn IsOwn children × EachOwn IsOwn later

-- The properties of each node are in byte order of their names, a name before longer ones that
-- begin with it (profile of this project).
abbrev pub IsNormal : Root (List Property) → Type 0
IsNormal root =
    EachOwn (λ properties. T (is_sorted (slice_cmp nat_cmp) properties)) (as_nodes root)
