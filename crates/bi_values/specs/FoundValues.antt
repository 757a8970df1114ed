use Rattle.std.specs.Prelude.{ℕ, List, [], ◌∷◌, Option, Some}
use Rattle.std.specs.FinMap.{get}
use Rattle.std.specs.Option.{option_and_then}
use Rattle.bi_blob.specs.Lookups.{Sibling, node_named, root_node}
use Rattle.bi_fit.specs.ImageTree.{ImageTree}

-- The values of the properties of a tree (Devicetree Specification, 2.2).

-- The node that names lead to from a node: the first name is that of a child of the node, the
-- second that of a child of this child, and so on.
abbrev pub node_by_names : {Own : Type 0} → Sibling Own → List (List ℕ) → Option (Sibling Own)
node_by_names from [] = Some from
node_by_names from (name ∷ later) =
    option_and_then (λ child. node_by_names child later) (node_named from.children name)

-- The value of the property with a name, of the node that these names lead to from the root. The
-- root of an image tree has no property that holds a payload of an image or names its region.
abbrev pub value_at : ImageTree → (path : List (List ℕ)) → (name : List ℕ) → Option (List ℕ)
value_at tree path name =
    option_and_then (λ found. get found.own name) (node_by_names (root_node tree.root) path)
