use Rattle.std.specs.Prelude.{ℕ, ◌+◌, ◌-◌, List, [], ◌∷◌, ◌++◌, Option, length, map, max, take}
use Rattle.std.specs.FinMap.{entries}
use Rattle.bi_blob.specs.Tree.{Nodes, none, node, Property, PropertyMap}
use Rattle.bi_fit.specs.ImageTree.{ImageTree}
use Rattle.bi_common.specs.Lines.{Line}
use Rattle.bi_describe.specs.declared.describe.entries.Entry.{Entry}
use Rattle.bi_describe.specs.declared.describe.entries.Entry.TheVariants as entry
use Rattle.bi_describe.specs.ComparedNodes.{ComparedNode, ComparedPayload, NoImage, ImageWith}
use Rattle.bi_describe.specs.ComparedNodes.{nodes_to_compare, described_payload}
use Rattle.bi_describe.specs.Descriptions.{node_line, payload_lines, property_line}
use Rattle.bi_describe.specs.ImagePayloads.{bytes_of_payload}

-- A tree as a flat list: what begins and ends, and what each line after that of the root has
-- besides the names of its node.

-- A node begins or ends; the payload of an image node, if it has one; its properties begin; a
-- property; or its properties end, and its children begin. All but the first are about the
-- innermost open node.
pub data EntryModel : Type 0 where
  NodeBegins : (name : List ℕ) → EntryModel
  NodeEnds : EntryModel
  PayloadEntry : (payload : Option (List ℕ)) → EntryModel
  PropertiesBegin : EntryModel
  PropertyEntry : (property : Property) → EntryModel
  ChildrenBegin : EntryModel

-- The entries of properties, in byte order of their names.
abbrev pub property_entries : PropertyMap → List EntryModel
property_entries properties =
    PropertiesBegin ∷ (map PropertyEntry (entries properties) ++ ChildrenBegin ∷ [])

-- The entry for the payload of an image node. Any other node has none.
abbrev pub payload_entries : ComparedPayload → List EntryModel
payload_entries NoImage = []
payload_entries (ImageWith payload) = PayloadEntry payload ∷ []

-- The entries of a node without itself and its children.
abbrev pub own_entries : ComparedNode → List EntryModel
own_entries own = payload_entries own.payload ++ property_entries own.properties

-- The entries of nodes, each before those of its children.
abbrev pub node_entries : Nodes ComparedNode → List EntryModel
node_entries none = []
node_entries (node name own children later) =
    NodeBegins name
    ∷ (own_entries own ++ (node_entries children ++ (NodeEnds ∷ node_entries later)))

-- The entries of a tree: the properties of the root, and the nodes below it.
abbrev pub tree_entries : ImageTree → List EntryModel
tree_entries tree =
    property_entries tree.root.own
    ++ node_entries (nodes_to_compare tree.root.children tree.payloads)

-- The names of the open nodes after an entry, if these are open before it. The root is left out.
abbrev pub open_after : (names : List (List ℕ)) → EntryModel → List (List ℕ)
open_after names (NodeBegins name) = names ++ name ∷ []
open_after names NodeEnds = take (length names - 1) names
open_after names entry = names

-- The lines of an entry, if these nodes are open after it.
abbrev pub lines_of_entry : (names : List (List ℕ)) → EntryModel → List Line
lines_of_entry names (NodeBegins name) = node_line names ∷ []
lines_of_entry names (PayloadEntry payload) =
    payload_lines names (described_payload (ImageWith payload))
lines_of_entry names (PropertyEntry property) = property_line names property ∷ []
lines_of_entry names entry = []

-- The lines of entries, if these nodes are open before them.
abbrev pub entry_lines : (names : List (List ℕ)) → List EntryModel → List Line
entry_lines names [] = []
entry_lines names (entry ∷ later) =
    lines_of_entry (open_after names entry) entry ++ entry_lines (open_after names entry) later

-- The number of the open nodes after an entry.
abbrev pub count_after : (count : ℕ) → EntryModel → ℕ
count_after count (NodeBegins name) = count + 1
count_after count NodeEnds = count - 1
count_after count entry = count

-- How many nodes are open at most, if so many are open before these entries.
abbrev pub most_open : (count : ℕ) → List EntryModel → ℕ
most_open count [] = count
most_open count (entry ∷ later) = max count (most_open (count_after count entry) later)

-- An entry that the code made.
abbrev pub as_entry : Entry → EntryModel
as_entry (entry.Begin name) = NodeBegins name.now
as_entry entry.End = NodeEnds
as_entry (entry.Payload payload) = PayloadEntry (bytes_of_payload payload)
as_entry entry.Properties = PropertiesBegin
as_entry (entry.Property name value) = PropertyEntry (name.now, value.now)
as_entry entry.Children = ChildrenBegin
