use Rattle.std.specs.Prelude.{◌≡◌, ℕ, ◌+◌, ◌≤◌, List, ◌∷◌, length, map, drop}
use Rattle.bi_blob.specs.Blob.{totalsize, off_mem_rsvmap, strings_end}
use Rattle.bi_blob.specs.BlobFaults.{HasReservations}
use Rattle.bi_blob.specs.Events.{FileEvent}
use Rattle.bi_fdt.specs.declared.table.Entry.{Entry}
use Rattle.bi_fdt.specs.declared.table.NodeEntry.{NodeEntry}
use Rattle.bi_fdt.specs.Table.{node_name_in, item_in}
use Rattle.bi_fdt.specs.TableItems.{TableItem, NodeItem, items_of}
use Rattle.bi_fdt.specs.Table.{IsLinked}
use Rattle.bi_fdt.specs.Reading.{IsTable}
use Rattle.bi_fdt.specs.Content.{root_in}

-- What is true of the fields of a blob, and of the entry of a node.

-- The file has its header, its strings block and its reservations, and the table is that of its
-- tree.
pub record IsBlobHeld (file : List ℕ) (reservation_count : ℕ) (entries : List Entry) : Type 0 where
  pub header : 36 ≤ length file
  pub total : totalsize file ≤ length file
  pub strings : strings_end file ≤ length file
  pub reservations : HasReservations file (off_mem_rsvmap file) (totalsize file) reservation_count
  pub is_table : IsTable file entries (root_in (map (item_in file) entries))

-- The entry of the node at this index of the table of a file, and the items after it.
pub record IsNodeOf (file : List ℕ) (table : List TableItem) (index : ℕ) (node_entry : NodeEntry)
    : Type 0 where
  pub later : List TableItem
  pub is_at : drop index table
      ≡ NodeItem node_entry.depth node_entry.place (node_name_in file node_entry) ∷ later
  pub linked : IsLinked 0 index node_entry later
  pub below : (events : List FileEvent) × (later ≡ items_of (node_entry.depth + 1) events)
