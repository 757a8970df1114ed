use Rattle.std.specs.Prelude.{◌≡◌, ℕ, ◌+◌, Bool, true, false, List, [], ◌∷◌, ◌++◌, length, map}
use Rattle.std.specs.Prelude.{reverse}
use Rattle.bi_base.specs.Cells.{slice}
use Rattle.bi_base.specs.declared.fault.Fault.{Fault}
use Rattle.bi_blob.specs.Tree.{names, IsNew}
use Rattle.bi_blob.specs.NameSets.{HoldsNames}
use Rattle.bi_blob.specs.BlobFaults.{token_fault, IsNewNode, IsNewProperty}
use Rattle.bi_blob.specs.OpenNodes.{OpenFileNode, events_of_open_nodes, with_one_child, new_node}
use Rattle.bi_blob.specs.OpenNodes.{with_one_property}
use Rattle.bi_fdt.specs.declared.table.PropertyEntry.{PropertyEntry}
use Rattle.bi_fdt.specs.declared.growing.Growing.{Growing}
use Rattle.bi_fdt.specs.declared.growing.OpenNode.{OpenNode}
use Rattle.bi_fdt.specs.PropertyMarks.{HasMarked, AreMarksBelow}
use Rattle.bi_fdt.specs.Table.{item_in, property_in, AreLinked}
use Rattle.bi_fdt.specs.TableItems.{items_of}
use Rattle.bi_fdt.specs.TableNames.{AreTableNames}

-- A tree while its tokens are read.

-- The open nodes of a table, the innermost first: each with its index in the table and the names of
-- its children so far.
abbrev pub AreOpen : List OpenNode → List (List ℕ) → List ℕ → List OpenFileNode → Type 0
AreOpen [] children name outer = ⊥
AreOpen (open_node ∷ []) children name [] =
    (open_node.entry ≡ 0) × HoldsNames open_node.children children
AreOpen (open_node ∷ later) children name [] = ⊥
AreOpen (open_node ∷ later) children name (parent ∷ outer) =
    (open_node.entry ≡ length (items_of 0 (events_of_open_nodes parent outer)))
    × HoldsNames open_node.children children
    × AreOpen later (names parent.children ++ name ∷ []) parent.name outer

-- A file has these bytes at this offset.
abbrev pub HasBytesAt : List ℕ → ℕ → List ℕ → Type 0
HasBytesAt file at bytes = slice file at (length bytes) ≡ bytes

-- A growing table is that of these open nodes of a file. While the innermost of them has no child,
-- the names of its properties have its mark.
pub record IsGrowing (file : List ℕ) (growing : Growing) (innermost : OpenFileNode)
    (outer : List OpenFileNode) : Type 0 where
  pub items : map (item_in file) growing.entries.items
      ≡ items_of 0 (events_of_open_nodes innermost outer)
  pub linked : AreLinked file (length outer + 1) 0 growing.entries.items
  pub opened : AreOpen (growing.innermost ∷ reverse growing.outer.items)
      (names innermost.children) innermost.name outer
  pub named : AreTableNames file growing.entries.items growing.names.used
  pub marks : AreMarksBelow (length growing.entries.items) growing.names
  pub properties : names innermost.children ≡ [] → HasMarked growing.names growing.innermost.entry
      (map (λ property. property.name) innermost.properties)

-- A growing table is that of some open nodes of some file.
pub record IsGrown (growing : Growing) : Type 0 where
  pub file : List ℕ
  pub innermost : OpenFileNode
  pub outer : List OpenFileNode
  pub is : IsGrowing file growing innermost outer

-- A growing table is that of a root that has begun.
pub record BeginsRoot (block name : List ℕ) (place : ℕ) (new : Growing) : Type 0 where
  pub count : length new.entries.items ≡ 1
  pub strings : new.names.strings ≡ block
  pub grown : (file : List ℕ) → HasBytesAt file (place + 4) name
      → IsGrowing file new (new_node name place) []

-- A child of the innermost open node of a growing table has begun.
pub record BeginsChild (old : Growing) (name : List ℕ) (place : ℕ) (new : Growing) : Type 0 where
  pub count : length new.entries.items ≡ length old.entries.items + 1
  pub strings : new.names.strings ≡ old.names.strings
  pub is_new : (file : List ℕ) (innermost : OpenFileNode) (outer : List OpenFileNode)
      → IsGrowing file old innermost outer → IsNew name (names innermost.children)
  pub grown : (file : List ℕ) (innermost : OpenFileNode) (outer : List OpenFileNode)
      → IsGrowing file old innermost outer → HasBytesAt file (place + 4) name
      → IsGrowing file new (new_node name place) (innermost ∷ outer)

-- The fault of a child, if another child of the innermost open node has its name.
pub record IsChildTaken (old : Growing) (name : List ℕ) (place : ℕ) (fault : Fault) : Type 0 where
  pub is_fault : fault ≡ token_fault place IsNewNode
  pub taken : (file : List ℕ) (innermost : OpenFileNode) (outer : List OpenFileNode)
      → IsGrowing file old innermost outer → ¬ (IsNew name (names innermost.children))

-- A property was added to the innermost open node of a growing table, which has no child.
pub record AddsProperty (old : Growing) (name : List ℕ) (property : PropertyEntry) (new : Growing)
    : Type 0 where
  pub count : length new.entries.items ≡ length old.entries.items + 1
  pub strings : new.names.strings ≡ old.names.strings
  pub is_new : (file : List ℕ) (innermost : OpenFileNode) (outer : List OpenFileNode)
      → IsGrowing file old innermost outer → names innermost.children ≡ []
      → IsNew name (map (λ other. other.name) innermost.properties)
  pub grown : (file : List ℕ) (innermost : OpenFileNode) (outer : List OpenFileNode)
      → IsGrowing file old innermost outer → names innermost.children ≡ []
      → (property_in file property).name ≡ name
      → IsGrowing file new (with_one_property innermost (property_in file property)) outer

-- The fault of a property, if another property of the innermost open node has its name.
pub record IsPropertyTaken (old : Growing) (name : List ℕ) (place : ℕ) (fault : Fault) : Type 0
  where
    pub is_fault : fault ≡ token_fault place IsNewProperty
    pub taken : (file : List ℕ) (innermost : OpenFileNode) (outer : List OpenFileNode)
        → IsGrowing file old innermost outer → names innermost.children ≡ []
        → ¬ (IsNew name (map (λ other. other.name) innermost.properties))

-- A table is that of a root of a file that has ended, and its numbers fit.
pub record IsFinished (file : List ℕ) (finished : Growing) (root : OpenFileNode) : Type 0 where
  pub items : map (item_in file) finished.entries.items
      ≡ items_of 0 (events_of_open_nodes root [])
  pub linked : AreLinked file 0 0 finished.entries.items
  pub named : AreTableNames file finished.entries.items finished.names.used

-- The innermost of these open nodes has ended, and what remains is this growing table.
abbrev pub EndsInside : List ℕ → Growing → OpenFileNode → List OpenFileNode → Type 0
EndsInside file growing innermost [] = ⊥
EndsInside file growing innermost (parent ∷ outer) =
    IsGrowing file growing (with_one_child parent innermost) outer

-- The innermost open node of a growing table has ended, and it is not the root. No entry was added.
pub record EndsChild (old new : Growing) : Type 0 where
  pub count : length new.entries.items ≡ length old.entries.items
  pub strings : new.names.strings ≡ old.names.strings
  pub grown : (file : List ℕ) (innermost : OpenFileNode) (outer : List OpenFileNode)
      → IsGrowing file old innermost outer → EndsInside file new innermost outer

-- The root of a growing table has ended.
pub record EndsRoot (old new : Growing) : Type 0 where
  pub finished : (file : List ℕ) (innermost : OpenFileNode) (outer : List OpenFileNode)
      → IsGrowing file old innermost outer → (outer ≡ []) × IsFinished file new innermost

-- The innermost open node of a growing table has ended. It was the root, or it was not.
abbrev pub IsEnding : Growing → Bool → Growing → Type 0
IsEnding old false new = EndsChild old new
IsEnding old true new = EndsRoot old new
