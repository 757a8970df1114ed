use Rattle.std.specs.Prelude.{◌≡◌, ℕ, ◌+◌, ◌<◌, ◌≤◌, List, [], ◌∷◌, length, map}
use Rattle.bi_base.specs.Cells.{slice}
use Rattle.bi_blob.specs.Tree.{FileProperty}
use Rattle.bi_fdt.specs.declared.table.Entry.{Entry}
use Rattle.bi_fdt.specs.declared.table.Entry.TheVariants as entry
use Rattle.bi_fdt.specs.declared.table.NodeEntry.{NodeEntry}
use Rattle.bi_fdt.specs.declared.table.PropertyEntry.{PropertyEntry}
use Rattle.bi_fdt.specs.TableItems.{TableItem, NodeItem, PropertyItem, first_properties}
use Rattle.bi_fdt.specs.TableItems.{count_inside}

-- The entries of the table of a tree.

-- The name of a node of a file: it is after the number of the node's token.
abbrev pub node_name_in : List ℕ → NodeEntry → List ℕ
node_name_in file node_entry = slice file (node_entry.place + 4) node_entry.name_length

-- A property of a file: the value is after the number of the property's token and two cells.
abbrev pub property_in : List ℕ → PropertyEntry → FileProperty
property_in file property_entry = record {
  name = slice file property_entry.name_begin property_entry.name_length;
  value = slice file (property_entry.place + 12) property_entry.value_length;
  place = property_entry.place;
}

-- The item of an entry, with the file that the entry is of.
abbrev pub item_in : List ℕ → Entry → TableItem
item_in file (entry.Node node_entry) =
    NodeItem node_entry.depth node_entry.place (node_name_in file node_entry)
item_in file (entry.Property property_entry number) = PropertyItem (property_in file property_entry)

-- The numbers of the entry of a node at index `at` fit the items after it. While the node is open,
-- `opened` being the number of the open nodes, nothing is required of its last descendant.
pub record IsLinked (opened at : ℕ) (node_entry : NodeEntry) (later : List TableItem) : Type 0 where
  pub count : node_entry.property_count ≡ length (first_properties later)
  pub before_end : count_inside node_entry.depth later < length later → node_entry.after
      ≡ at + 1 + count_inside node_entry.depth later
  pub at_end : opened ≤ node_entry.depth → node_entry.after
      ≡ at + 1 + count_inside node_entry.depth later

-- The numbers of all entries from index `at` on fit.
abbrev pub AreLinked : List ℕ → ℕ → ℕ → List Entry → Type 0
AreLinked file opened at [] = Unit {0}
AreLinked file opened at (entry.Node node_entry ∷ later) =
    IsLinked opened at node_entry (map (item_in file) later)
    × AreLinked file opened (at + 1) later
AreLinked file opened at (entry.Property property_entry number ∷ later) =
    AreLinked file opened (at + 1) later
