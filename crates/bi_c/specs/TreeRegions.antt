use Rattle.std.specs.Prelude.{ℕ, ◌+◌, ◌≡◌, List, [], length, Option, None, Some, ⊤}
use Rattle.std.specs.List.{AllByRecursion}
use Rattle.bi_base.specs.Cells.{u32_at}
use Rattle.bi_blob.specs.Blob.{off_dt_strings}
use Rattle.bi_blob.specs.Lookups.{Sibling, siblings}
use Rattle.bi_blob.specs.Tree.{FileNode, FileProperty, Nodes, none, node}
use Rattle.bi_fit.specs.Payloads.{IsAt}
use Rattle.bi_c.specs.declared.region.Region.{Region}

-- Where in a file the names and values of its tree are (Devicetree Specification, 5.4.1, 5.5).

-- The name of a node, after the number of the token that begins the node.
abbrev pub node_name_region : FileNode → (name : List ℕ) → Region
node_name_region own name = record { offset = own.place + 4; size = length name }

-- The name of a property, in the strings block, at the offset in the third cell of its token.
abbrev pub property_name_region : (file : List ℕ) → FileProperty → Region
property_name_region file property = record {
  offset = off_dt_strings file + u32_at file (property.place + 8);
  size = length property.name;
}

-- The value of a property, after the three cells of its token.
abbrev pub value_region : FileProperty → Region
value_region property = record { offset = property.place + 12; size = length property.value }

-- These are the bytes of the file in the region.
pub record AreBytesAt (file : List ℕ) (region : Region) (bytes : List ℕ) : Type 0 where
  pub is_size : region.size ≡ length bytes
  pub is_there : IsAt file region.offset bytes

-- The name and the value of a property are at these places in its file.
pub record HasPropertyBytes (file : List ℕ) (property : FileProperty) : Type 0 where
  pub name : AreBytesAt file (property_name_region file property) property.name
  pub value : AreBytesAt file (value_region property) property.value

-- The names of these nodes and of all nodes below them, and the names and the values of their
-- properties, are at these places in their file.
abbrev pub HaveNodeBytes : (file : List ℕ) → Nodes FileNode → Type 0
HaveNodeBytes file none = ⊤
HaveNodeBytes file (node name own children later) =
    AreBytesAt file (node_name_region own name) name
    × AllByRecursion (HasPropertyBytes file) own.properties
    × HaveNodeBytes file children × HaveNodeBytes file later

-- Where the name of a node is.
abbrev pub name_region_of : Sibling FileNode → Region
name_region_of entry = node_name_region entry.own entry.name

-- The name of a node is at this place in its file.
abbrev pub HasNameBytes : (file : List ℕ) → Sibling FileNode → Type 0
HasNameBytes file entry = AreBytesAt file (name_region_of entry) entry.name

-- The children of a node that may not be there.
abbrev pub children_of_found : Option (Sibling FileNode) → List (Sibling FileNode)
children_of_found None = []
children_of_found (Some found) = siblings found.children
