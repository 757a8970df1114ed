use Rattle.std.specs.Prelude.{⊤}
use Rattle.std.proofs.Common.{◌≡◌, ℕ, List, [], ap, ◌∙◌}
use Rattle.bi_blob.specs.Tree.{Root, as_nodes, with_each}
use Rattle.bi_tree.specs.Changes.{with_change_at, with_node_at}
use Rattle.bi_tree.specs.Properties.{TreePropertyModel, with_own_property, without_own_property, with_property_at}
use Rattle.bi_tree.specs.Laws.{ChangesByName}
use Rattle.bi_tree.specs.Trees.{AreNumberedAmong, IsNumberedTree, by_name, tree_by_name}
use Rattle.bi_tree.specs.Trees.{with_own_value, without_own_value, with_value_by_path, without_value_by_path}
use Rattle.bi_tree.proofs.MappedChanges.{node_found, node_removed, nodes_added, changed_at, each_is}
use Rattle.bi_tree.proofs.PropertyMaps.{set_without_order, removed_without_order}

-- A change of a tree is the same change of the tree with the properties of each node by name.

value_is : (root : Root (List TreePropertyModel)) (path : List (List ℕ)) (new : TreePropertyModel) →
    tree_by_name (with_property_at path new root)
    ≡ with_value_by_path path new.name new.value (tree_by_name root)
value_is root path new =
    changed_at by_name (λ _. ⊤) (with_own_property new) (with_own_value new.name new.value)
    (λ old _. ap (λ own. record { own = own; children = with_each by_name old.children }) (set_without_order new old.own))
    path (with_node_at [] path root) (each_is by_name (as_nodes (with_node_at [] path root)))
    ∙ ap (λ tree. with_change_at path (with_own_value new.name new.value) tree) (nodes_added by_name [] path root)

property_is : (names : List (List ℕ)) (root : Root (List TreePropertyModel)) (path : List (List ℕ)) (name : List ℕ) →
    IsNumberedTree names root →
    tree_by_name (with_change_at path (without_own_property name) root)
    ≡ without_value_by_path path name (tree_by_name root)
property_is names root path name numbered =
    changed_at by_name (AreNumberedAmong names) (without_own_property name) (without_own_value name)
    (λ old all. ap (λ own. record { own = own; children = with_each by_name old.children })
    (removed_without_order name old.own all.0.distinct))
    path root numbered

pub changes_by_name : ChangesByName
changes_by_name = record {
  node = λ root path. node_found by_name path root;
  removal = λ root path. node_removed by_name path root;
  value = value_is;
  property = property_is;
}
