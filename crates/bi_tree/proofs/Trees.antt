use Rattle.std.proofs.Common.{◌≡◌, ℕ, List, Option, Some, None, option_map, refl, sym, ap, ◌∙◌}
use Rattle.std.specs.FinMap.{get}
use Rattle.std.specs.Option.{is_some, option_and_then}
use Rattle.bi_blob.specs.Tree.{Root}
use Rattle.bi_tree.specs.Changes.{node_by_path}
use Rattle.bi_tree.specs.Properties.{TreePropertyModel}
use Rattle.bi_tree.specs.Trees.{value_by_path, first_value, tree_by_name}
use Rattle.bi_tree.proofs.ChangesByName.{changes_by_name}

-- What is found in a tree, by what is found in it with the order of the properties.

pub is_some_mapped : {A B : Type 0} (f : A → B) (x : Option A) → is_some x ≡ is_some (option_map f x)
is_some_mapped f None = refl
is_some_mapped f (Some x) = refl

in_found : (name : List ℕ) (found : Option (Root (List TreePropertyModel))) →
    option_and_then (λ node. first_value node.own name) found
    ≡ option_and_then (λ node. get node.own name) (option_map tree_by_name found)
in_found name None = refl
in_found name (Some node) = refl

pub value_on_path : (root : Root (List TreePropertyModel)) (path : List (List ℕ)) (name : List ℕ) →
    option_and_then (λ node. first_value node.own name) (node_by_path root path) ≡ value_by_path (tree_by_name root) path name
value_on_path root path name =
    in_found name (node_by_path root path)
    ∙ ap (λ found. option_and_then (λ node. get node.own name) found) (sym (changes_by_name.node root path))
