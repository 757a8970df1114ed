use Rattle.std.specs.Prelude.{ℕ, ◌+◌, List, [], ◌∷◌, Bool, true, false}
use Rattle.bi_blob.specs.Tree.{Nodes, none, node, Root, FileNode}
use Rattle.bi_blob.specs.Lookups.{Sibling}
use Rattle.bi_blob.specs.Blob.{Reservation}
use Rattle.bi_fdt.specs.TableItems.{TableItem, NodeItem, PropertyItem, first_properties, nodes_of}

-- What a blob that was read holds.

-- The file, its boot processor, its length as a blob, its memory reservations and the table of its
-- tree.
pub record Blob : Type 0 where
  pub file : List ℕ
  pub cpu : ℕ
  pub total_size : ℕ
  pub reservations : List Reservation
  pub table : List TableItem

-- The first of some nodes as a root.
abbrev pub first_as_root : Nodes FileNode → Root FileNode
first_as_root none = record { own = record { place = 0; properties = [] }; children = none }
first_as_root (node name own children later) = record { own = own; children = children }

-- The tree of a table.
abbrev pub root_in : List TableItem → Root FileNode
root_in items = first_as_root (nodes_of 0 items)

-- The tree that a blob holds.
abbrev pub root_of : Blob → Root FileNode
root_of content = root_in content.table

-- Whether items begin with a node.
abbrev pub begins_with_node : List TableItem → Bool
begins_with_node [] = false
begins_with_node (NodeItem depth place name ∷ later) = true
begins_with_node (PropertyItem property ∷ later) = false

-- The node that items begin with, and the siblings after it.
abbrev pub first_sibling : List TableItem → Sibling FileNode
first_sibling [] =
    record { name = []; own = record { place = 0; properties = [] }; children = none; later = none }
first_sibling (PropertyItem property ∷ later) =
    record { name = []; own = record { place = 0; properties = [] }; children = none; later = none }
first_sibling (NodeItem depth place name ∷ later) = record {
  name = name;
  own = record { place = place; properties = first_properties later };
  children = nodes_of (depth + 1) later;
  later = nodes_of depth later;
}
