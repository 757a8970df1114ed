use Rattle.std.specs.Prelude.{ℕ, ◌+◌, ◌≤◌, suc, List, [], ◌∷◌, refl, map, bytes_eq}
use Rattle.std.specs.Prelude.{if◌then◌else◌}
use Rattle.std.proofs.Common.{arith}
use Rattle.std.specs.Coded.{Coded, code_by, coded×, coded_list, coded_ℕ}
use denote.Param.Weighed.{most}
use Rattle.bi_blob.specs.Tree.{Nodes, none, node, Root, node_count}
use Rattle.bi_tree.specs.NodeCodes.{nodes_code_by}
use Rattle.bi_tree.specs.Properties.{TreePropertyModel, property_code}

-- What a node of a tree that can be changed shows.

-- Its name, its properties, and the nodes below it.
pub record TreeNodeModel : Type 0 where
  pub name : List ℕ
  pub own : List TreePropertyModel
  pub children : Nodes (List TreePropertyModel)

-- It is stored as these three.
abbrev pub node_code : Coded TreeNodeModel
node_code =
    code_by (List ℕ × (List TreePropertyModel × Nodes (List TreePropertyModel)))
    (coded× (coded_list coded_ℕ)
    (coded× (coded_list property_code) (nodes_code_by (coded_list property_code))))
    (λ top. (top.name, (top.own, top.children)))
    (λ parts. record { name = parts.0; own = parts.1.0; children = parts.1.1 })
    (λ _. refl)

-- Nodes, as a list of them shows them.
abbrev pub nodes_of_models : List TreeNodeModel → Nodes (List TreePropertyModel)
nodes_of_models [] = none
nodes_of_models (first ∷ later) = node first.name first.own first.children (nodes_of_models later)

-- A node without its name.
abbrev pub below : TreeNodeModel → Root (List TreePropertyModel)
below top = record { own = top.own; children = top.children }

-- How many nodes there are below a node, with itself.
abbrev pub node_size : TreeNodeModel → ℕ
node_size top = node_count top.children + 1

pub most_le_count : (nodes : List TreeNodeModel)
    → most (λ top. node_size top + 1) nodes ≤ node_count (nodes_of_models nodes) + 1
most_le_count [] = omega arith
most_le_count (first ∷ later) = omega (arith, most_le_count later)

-- The index of the first of these names that is this one, or the number of names if none is.
abbrev pub index_named : (name : List ℕ) → List (List ℕ) → ℕ
index_named name [] = 0
index_named name (first ∷ later) = if bytes_eq first name then 0 else suc (index_named name later)

-- The names of nodes.
abbrev pub names_of_models : List TreeNodeModel → List (List ℕ)
names_of_models nodes = map (λ top. top.name) nodes
