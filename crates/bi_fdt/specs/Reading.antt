use Rattle.std.specs.Prelude.{◌≡◌, ℕ, ◌+◌, ◌<◌, ◌≤◌, Bool, true, false, List, length, map}
use Rattle.bi_blob.specs.Tree.{Root, FileNode, depth_of}
use Rattle.bi_blob.specs.Events.{file_events_of}
use Rattle.bi_blob.specs.Blob.{TreeBlocks, HoldsTree}
use Rattle.bi_blob.specs.OpenNodes.{OpenFileNode, IsOpenAt, OpenTree, WholeTree}
use Rattle.bi_fdt.specs.declared.table.Entry.{Entry}
use Rattle.bi_fdt.specs.declared.tokens.Reading.{Reading}
use Rattle.bi_fdt.specs.Table.{item_in, AreLinked}
use Rattle.bi_fdt.specs.TableItems.{items_of}
use Rattle.bi_fdt.specs.TableNames.{AreTableNames}
use Rattle.bi_fdt.specs.Growth.{IsGrowing}

-- A reader of the structure block, token by token.

-- A reader is inside the root. Its table has no more entries than there are bytes before it.
pub record IsReading (blocks : TreeBlocks) (depth_limit : ℕ) (reading : Reading) : Type 0 where
  pub innermost : OpenFileNode
  pub outer : List OpenFileNode
  pub position : IsOpenAt blocks depth_limit reading.place (OpenTree innermost outer)
  pub growing : IsGrowing blocks.file reading.growing innermost outer
  pub strings : reading.growing.names.strings ≡ blocks.strings
  pub few : length reading.growing.entries.items ≤ reading.place
  pub within : reading.place ≤ blocks.end + 3

-- A table is that of this tree of a file.
pub record IsTable (file : List ℕ) (entries : List Entry) (root : Root FileNode)
    : Type 0 where
  pub items : map (item_in file) entries ≡ items_of 0 (file_events_of root)
  pub linked : AreLinked file 0 0 entries

-- A reader is after the root, which its table holds.
pub record IsAfter (blocks : TreeBlocks) (depth_limit : ℕ) (reading : Reading) : Type 0 where
  pub root : Root FileNode
  pub position : IsOpenAt blocks depth_limit reading.place (WholeTree root)
  pub is_table : IsTable blocks.file reading.growing.entries.items root
  pub named : AreTableNames blocks.file reading.growing.entries.items reading.growing.names.used
  pub within : reading.place ≤ blocks.end + 3

-- A reader has read the token at an offset, and has come to what is after it. The root has ended,
-- or it has not.
abbrev pub IsAhead : TreeBlocks → (depth_limit place : ℕ) → Bool → Reading → Type 0
IsAhead blocks depth_limit place false reading =
    IsReading blocks depth_limit reading × (place < reading.place)
IsAhead blocks depth_limit place true reading = IsAfter blocks depth_limit reading

-- A table is that of the tree that a structure block holds, and these are the names of its
-- properties. The tree is no deeper than a limit.
pub record HasTable (blocks : TreeBlocks) (depth_limit : ℕ) (entries : List Entry)
    (used : List (List ℕ)) : Type 0 where
  pub root : Root FileNode
  pub holds : HoldsTree blocks root
  pub shallow : depth_of root ≤ depth_limit
  pub is_table : IsTable blocks.file entries root
  pub named : AreTableNames blocks.file entries used
