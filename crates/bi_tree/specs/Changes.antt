use Rattle.std.specs.Prelude.{ℕ, List, [], ◌∷◌, Option, Some, bytes_eq}
use Rattle.std.specs.Prelude.{if◌then◌else◌, option_and_then, option_map}
use Rattle.bi_blob.specs.Lookups.{Sibling, node_named}
use Rattle.bi_blob.specs.Tree.{Nodes, none, node, Root}

-- What a change of one node makes of a tree (Devicetree Specification, 2.2). A `Root` is here any
-- node with all nodes below it, without its own name.

-- A node without its name and the nodes after it.
abbrev pub below_sibling : {Own : Type 0} → Sibling Own → Root Own
below_sibling sibling = record { own = sibling.own; children = sibling.children }

-- The node with this name in a list.
abbrev pub child_named : {Own : Type 0} → Nodes Own → (name : List ℕ) → Option (Root Own)
child_named nodes name = option_map below_sibling (node_named nodes name)

-- The node that a path leads to from this one: the first name of the path is that of a child of it,
-- the second that of a child of this child, and so on.
abbrev pub node_by_path : {Own : Type 0} → Root Own → (path : List (List ℕ)) → Option (Root Own)
node_by_path from [] = Some from
node_by_path from (name ∷ later) =
    option_and_then (λ child. node_by_path child later) (child_named from.children name)

-- A node with this name in a list.
abbrev pub named_node : {Own : Type 0} → (name : List ℕ) → Root Own → (later : Nodes Own)
    → Nodes Own
named_node name below later = node name below.own below.children later

-- These nodes, with a change of the first one with this name.
abbrev pub with_node : {Own : Type 0} → (name : List ℕ) → (Root Own → Root Own) → Nodes Own
    → Nodes Own
with_node wanted change none = none
with_node wanted change (node name own children later) =
    if bytes_eq name wanted
    then named_node name (change (record { own = own; children = children })) later
    else node name own children (with_node wanted change later)

-- These nodes, with one more after them that has this itself and no children, unless one of them
-- has this name.
abbrev pub with_new_node : {Own : Type 0} → (nothing : Own) → (name : List ℕ) → Nodes Own
    → Nodes Own
with_new_node nothing wanted none = node wanted nothing none none
with_new_node nothing wanted (node name own children later) =
    if bytes_eq name wanted then node name own children later
    else node name own children (with_new_node nothing wanted later)

-- These nodes without the first one with this name.
abbrev pub without_node : {Own : Type 0} → (name : List ℕ) → Nodes Own → Nodes Own
without_node wanted none = none
without_node wanted (node name own children later) =
    if bytes_eq name wanted then later else node name own children (without_node wanted later)

-- A tree with a change of the node at a path. Without this node it stays.
abbrev pub with_change_at : {Own : Type 0} → (path : List (List ℕ)) → (Root Own → Root Own)
    → Root Own → Root Own
with_change_at [] change root = change root
with_change_at (name ∷ later) change root =
    record root { children = with_node name (with_change_at later change) root.children }

-- A tree without the node at a path and all nodes below it. The root stays.
abbrev pub without_node_at : {Own : Type 0} → (path : List (List ℕ)) → Root Own → Root Own
without_node_at [] root = root
without_node_at (name ∷ []) root = record root { children = without_node name root.children }
without_node_at (name ∷ next ∷ later) root =
    record root { children = with_node name (without_node_at (next ∷ later)) root.children }

-- A tree with all nodes of a path: each that was not there is the last child of its parent, and has
-- this itself.
abbrev pub with_node_at : {Own : Type 0} → (nothing : Own) → (path : List (List ℕ)) → Root Own
    → Root Own
with_node_at nothing [] root = root
with_node_at nothing (name ∷ later) root =
    record root {
      children = with_node name (with_node_at nothing later)
          (with_new_node nothing name root.children);
    }
