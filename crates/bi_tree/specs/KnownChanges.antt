use Rattle.std.specs.Prelude.{◌≡◌, ℕ, List, [], ◌∷◌, codes, Some, None}
use Rattle.bi_blob.specs.Tree.{Nodes, none, node, Root}
use Rattle.bi_tree.specs.Changes.{node_by_path, with_change_at, with_node_at, without_node_at}
use Rattle.bi_tree.specs.NodeCodes.{last_made, made_by, node_steps}
use Rattle.bi_tree.specs.Properties.{TreePropertyModel, with_own_property, with_property_at}
use Rattle.bi_tree.specs.Properties.{without_own_property}

-- A small tree and what it is after changes, by which a reader can judge the definitions. Each node
-- has a number.

-- The tree: the root 0 has the children `a`, which is 1 and has the child `b`, and `c`, which is 3.
abbrev pub small_tree : (b : ℕ) → Root ℕ
small_tree b = record {
  own = 0;
  children = node (codes "a") 1 (node (codes "b") b none none) (node (codes "c") 3 none none);
}

-- Paths.
abbrev pub path_a : List (List ℕ)
path_a = codes "a" ∷ []

abbrev pub path_a_b : List (List ℕ)
path_a_b = codes "a" ∷ codes "b" ∷ []

abbrev pub path_b : List (List ℕ)
path_b = codes "b" ∷ []

-- A node that has the number 9.
abbrev pub with_nine : Root ℕ → Root ℕ
with_nine root = record root { own = 9 }

-- Nodes are found by their paths. A node that is removed takes the nodes below it with it, a node
-- that is added is the last child of its parent, and the root stays.
pub record NodeChangesAreKnown : Type 0 where
  pub root : node_by_path (small_tree 2) [] ≡ Some (small_tree 2)
  pub found : node_by_path (small_tree 2) path_a_b ≡ Some (record { own = 2; children = none })
  pub not_found : node_by_path (small_tree 2) path_b ≡ None
  pub change : with_change_at path_a_b with_nine (small_tree 2) ≡ small_tree 9
  pub no_change : with_change_at path_b with_nine (small_tree 2) ≡ small_tree 2
  pub removal : without_node_at path_a (small_tree 2)
      ≡ record { own = 0; children = node (codes "c") 3 none none }
  pub removal_below : without_node_at path_a_b (small_tree 2)
      ≡ record {
        own = 0;
        children = node (codes "a") 1 none (node (codes "c") 3 none none);
      }
  pub no_removal : without_node_at path_b (small_tree 2) ≡ small_tree 2
  pub root_stays : without_node_at [] (small_tree 2) ≡ small_tree 2
  pub addition : with_node_at 7 (codes "a" ∷ codes "d" ∷ codes "e" ∷ []) (small_tree 2)
      ≡ record {
        own = 0;
        children = node (codes "a") 1
            (node (codes "b") 2 none
            (node (codes "d") 7 (node (codes "e") 7 none none) none))
            (node (codes "c") 3 none none);
      }
  pub addition_to_root : with_node_at 7 path_b (small_tree 2)
      ≡ record {
        own = 0;
        children = node (codes "a") 1 (node (codes "b") 2 none none)
            (node (codes "c") 3 none (node (codes "b") 7 none none));
      }
  pub no_addition : with_node_at 7 path_a_b (small_tree 2) ≡ small_tree 2

-- A property with a number for its name.
abbrev pub known_property : (name : List ℕ) → (number : ℕ) → (value : List ℕ) → TreePropertyModel
known_property name number value = record { name = name; number = number; value = value }

-- A node with two properties, in this order.
abbrev pub two_property_node : (x : List ℕ) → Root (List TreePropertyModel)
two_property_node x = record {
  own = known_property (codes "x") 0 x ∷ known_property (codes "y") 1 (codes "2") ∷ [];
  children = none;
}

-- A property that is there keeps its place, and one that is added is the last.
pub record ChangesOfPropertiesAreKnown : Type 0 where
  pub value :
      with_own_property (known_property (codes "x") 0 (codes "9")) (two_property_node (codes "1"))
      ≡ two_property_node (codes "9")
  pub addition :
      with_own_property (known_property (codes "a") 2 (codes "3")) (two_property_node (codes "1"))
      ≡ record {
        own = known_property (codes "x") 0 (codes "1") ∷ known_property (codes "y") 1 (codes "2")
            ∷ known_property (codes "a") 2 (codes "3") ∷ [];
        children = none;
      }
  pub removal : without_own_property (codes "x") (two_property_node (codes "1"))
      ≡ record { own = known_property (codes "y") 1 (codes "2") ∷ []; children = none }
  pub no_removal : without_own_property (codes "a") (two_property_node (codes "1"))
      ≡ two_property_node (codes "1")
  pub node : with_property_at (codes "n" ∷ []) (known_property (codes "a") 2 (codes "3"))
      (two_property_node (codes "1"))
      ≡ record {
        own = (two_property_node (codes "1")).own;
        children = node (codes "n") (known_property (codes "a") 2 (codes "3") ∷ []) none none;
      }

-- Nodes are made again of the steps that they are stored as.
abbrev pub NodesAreMadeAgain : Type 0
NodesAreMadeAgain =
    (nodes : Nodes (List TreePropertyModel)) → last_made (made_by (node_steps nodes) []) ≡ nodes
