use Rattle.std.specs.Prelude.{ℕ, List, [], ◌∷◌, map, Option, Some, None, bytes_eq}
use Rattle.std.specs.List.{slice_get}
use Rattle.std.specs.Map.{lookup}
use Rattle.bi_blob.specs.Tree.{Nodes, none, node, Root, Property, FileProperty}

-- What a tree has at an index or under a name (Devicetree Specification, 2.2.1, 2.2.4). If several
-- have the name, the first of them is found.

-- A node of a list with the nodes after it.
pub record Sibling (Own : Type 0) : Type 0 where
  pub name : List ℕ
  pub own : Own
  pub children : Nodes Own
  pub later : Nodes Own

-- The nodes of a list, each with the nodes after it.
abbrev pub siblings : {Own : Type 0} → Nodes Own → List (Sibling Own)
siblings none = []
siblings (node name own children later) =
    record { name = name; own = own; children = children; later = later } ∷ siblings later

-- A node and the nodes after it, or no nodes.
abbrev pub siblings_from : {Own : Type 0} → Option (Sibling Own) → List (Sibling Own)
siblings_from None = []
siblings_from (Some first) = first ∷ siblings first.later

-- A root, which has no siblings.
abbrev pub root_node : {Own : Type 0} → Root Own → Sibling Own
root_node root = record { name = []; own = root.own; children = root.children; later = none }

-- The node at this index of a list.
abbrev pub node_at : {Own : Type 0} → Nodes Own → ℕ → Option (Sibling Own)
node_at nodes index = slice_get (siblings nodes) index

-- The node with the given name in a list.
abbrev pub node_named : {Own : Type 0} → Nodes Own → List ℕ → Option (Sibling Own)
node_named nodes name =
    lookup (λ other. bytes_eq other name)
    (map (λ sibling. (sibling.name, sibling)) (siblings nodes))

-- The value of the property with the given name.
abbrev pub value_named : List Property → List ℕ → Option (List ℕ)
value_named properties name = lookup (λ other. bytes_eq other name) properties

-- The property with the given name in a file, with its place.
abbrev pub property_named : List FileProperty → List ℕ → Option FileProperty
property_named properties name =
    lookup (λ other. bytes_eq other name) (map (λ property. (property.name, property)) properties)
