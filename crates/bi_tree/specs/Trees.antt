use Rattle.std.specs.Prelude.{ℕ, List, Option, option_and_then}
use Rattle.std.specs.List.{AllByRecursion}
use Rattle.std.specs.FinMap.{empty, from_entries, get, insert, remove}
use Rattle.bi_blob.specs.Tree.{Root, PropertyMap, AreDistinct, EachOwn, as_nodes, with_each_node}
use Rattle.bi_fdt.specs.Numbers.{IsNumberOf}
use Rattle.bi_tree.specs.Changes.{node_by_path, with_change_at, with_node_at}
use Rattle.bi_tree.specs.Properties.{TreePropertyModel, own_property_names, without_numbers}

-- Trees of properties by name, and what a change of a property makes of one (Devicetree
-- Specification, 2.2.4).

-- Properties by name, without the numbers of their names.
abbrev pub by_name : List TreePropertyModel → PropertyMap
by_name properties = from_entries (without_numbers properties)

-- A tree with the properties of each node by name.
abbrev pub tree_by_name : Root (List TreePropertyModel) → Root PropertyMap
tree_by_name root = with_each_node by_name root

-- The properties of a node have distinct names, and among these names the numbers that they give.
pub record AreNumberedAmong (names : List (List ℕ)) (properties : List TreePropertyModel) : Type 0
  where
    pub distinct : AreDistinct (own_property_names properties)
    pub numbered : AllByRecursion (λ property. IsNumberOf names property.name property.number)
        properties

-- So it is in each node of a tree.
abbrev pub IsNumberedTree : List (List ℕ) → Root (List TreePropertyModel) → Type 0
IsNumberedTree names root = EachOwn (AreNumberedAmong names) (as_nodes root)

-- So it is in each node of a tree, and these names are distinct.
pub record AreNamesOfTree (names : List (List ℕ)) (root : Root (List TreePropertyModel)) : Type 0
  where
    pub distinct : AreDistinct names
    pub numbered : IsNumberedTree names root

-- The value of the first of these properties with a name, if one has it.
abbrev pub first_value : List TreePropertyModel → (name : List ℕ) → Option (List ℕ)
first_value properties name = get (by_name properties) name

-- The value of a property of the node at a path, if there is one.
abbrev pub value_by_path : Root PropertyMap → (path : List (List ℕ)) → (name : List ℕ)
    → Option (List ℕ)
value_by_path root path name =
    option_and_then (λ found. get found.own name) (node_by_path root path)

-- A node with this value of one of its properties, and a node without a property.
abbrev pub with_own_value : (name value : List ℕ) → Root PropertyMap → Root PropertyMap
with_own_value name value root = record root { own = insert root.own name value }

abbrev pub without_own_value : (name : List ℕ) → Root PropertyMap → Root PropertyMap
without_own_value name root = record root { own = remove root.own name }

-- A tree with this value of a property of the node at a path. The nodes of the path are added if
-- they are not there.
abbrev pub with_value_by_path : (path : List (List ℕ)) → (name value : List ℕ) → Root PropertyMap
    → Root PropertyMap
with_value_by_path path name value root =
    with_change_at path (with_own_value name value) (with_node_at empty path root)

-- A tree without a property of the node at a path.
abbrev pub without_value_by_path : (path : List (List ℕ)) → (name : List ℕ) → Root PropertyMap
    → Root PropertyMap
without_value_by_path path name root = with_change_at path (without_own_value name) root
