use Rattle.std.specs.Prelude.{◌≡◌, ℕ, List, option_map}
use Rattle.bi_blob.specs.Tree.{Root}
use Rattle.bi_fdt.specs.Numbers.{BeginsWith, IsNumberOf}
use Rattle.bi_tree.specs.Changes.{node_by_path, with_change_at, without_node_at}
use Rattle.bi_tree.specs.Properties.{TreePropertyModel, with_property_at, without_own_property}
use Rattle.bi_tree.specs.Trees.{IsNumberedTree, tree_by_name}
use Rattle.bi_tree.specs.Trees.{with_value_by_path, without_value_by_path}

-- A change of a tree is the same change of the tree with the properties of each node by name.

pub record ChangesByName : Type 0 where
  pub node : (root : Root (List TreePropertyModel)) (path : List (List ℕ))
      → node_by_path (tree_by_name root) path
      ≡ option_map tree_by_name (node_by_path root path)
  pub removal : (root : Root (List TreePropertyModel)) (path : List (List ℕ))
      → tree_by_name (without_node_at path root)
      ≡ without_node_at path (tree_by_name root)
  pub value : (root : Root (List TreePropertyModel))
      (path : List (List ℕ)) (new : TreePropertyModel)
      → tree_by_name (with_property_at path new root)
      ≡ with_value_by_path path new.name new.value (tree_by_name root)
  pub property : (names : List (List ℕ)) (root : Root (List TreePropertyModel))
      (path : List (List ℕ)) (name : List ℕ) → IsNumberedTree names root
      → tree_by_name (with_change_at path (without_own_property name) root)
      ≡ without_value_by_path path name (tree_by_name root)

-- Names keep their numbers when names are added at the end. If no node has two properties with one
-- name, and each gives the number of its name, so it is after changes.
pub record NumbersStay (names : List (List ℕ)) (root : Root (List TreePropertyModel)) : Type 0 where
  pub more : (more : List (List ℕ)) → BeginsWith more names → IsNumberedTree more root
  pub removal : (path : List (List ℕ)) → IsNumberedTree names (without_node_at path root)
  pub value : (path : List (List ℕ)) (new : TreePropertyModel)
      → IsNumberOf names new.name new.number
      → IsNumberedTree names (with_property_at path new root)
  pub property : (path : List (List ℕ)) (name : List ℕ)
      → IsNumberedTree names (with_change_at path (without_own_property name) root)

abbrev pub NumbersStayInTrees : Type 0
NumbersStayInTrees =
    (names : List (List ℕ)) (root : Root (List TreePropertyModel)) → IsNumberedTree names root
    → NumbersStay names root
