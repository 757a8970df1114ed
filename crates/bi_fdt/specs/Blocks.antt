use Rattle.std.specs.Prelude.{◌≡◌, ℕ, ◌+◌, ◌^◌, ◌<◌, ◌≤◌, ◌↔◌, Bool, IsTrue, List, [], ◌∷◌, length}
use Rattle.bi_base.specs.Cells.{u32_at, slice}
use Rattle.bi_blob.specs.Blob.{TreeBlocks, IsReadable}
use Rattle.bi_base.specs.Checks.{IsFirstFault}
use Rattle.bi_base.specs.declared.fault.Fault.{Fault}
use Rattle.bi_blob.specs.BlobFaults.{TokenCheck, IsWithinDepth, HasNodeName, MayNameNode}
use Rattle.bi_blob.specs.BlobFaults.{HasName, TokenPasses, token_fault}
use Rattle.bi_blob.specs.BlobFaults.{property_checks}
use Rattle.bi_blob.specs.Stages.{Stage, child_names}
use Rattle.bi_blob.specs.Tokens.{name_from}
use Rattle.bi_blob.specs.Tree.{IsPropertyName}
use Rattle.bi_fdt.specs.declared.blocks.Blocks.{Blocks}
use Rattle.bi_fdt.specs.declared.table.PropertyEntry.{PropertyEntry}

-- The blocks that hold a tree, as the definitions of blobs see them.
abbrev pub blocks_of : Blocks → TreeBlocks
blocks_of blocks = record {
  file = blocks.file.now;
  begin = blocks.begin;
  end = blocks.end;
  strings = blocks.strings.now;
}

-- The two blocks are within a file of bytes that is no longer than limits allow.
pub record AreBlocks (blocks : Blocks) : Type 0 where
  pub readable : IsReadable (blocks_of blocks)
  pub small : length blocks.file.now < 2 ^ 31
  pub strings_there : blocks.strings.now
      ≡ slice blocks.file.now blocks.strings_begin (length blocks.strings.now)

-- The number of the token at this offset is within the structure block, and it is this.
pub record IsNumberAt (blocks : TreeBlocks) (place number : ℕ) : Type 0 where
  pub within : place + 4 ≤ blocks.end
  pub is_number : u32_at blocks.file place ≡ number

-- The checks of FDT_BEGIN_NODE that do not depend on the other children of a node.
abbrev pub node_name_checks : List TokenCheck
node_name_checks = IsWithinDepth ∷ HasNodeName ∷ MayNameNode ∷ []

-- The property whose token is at this offset has its parts there, and a name that it may have.
pub record IsPropertyAt (blocks : TreeBlocks) (at : ℕ) (property : PropertyEntry) : Type 0 where
  pub place : property.place ≡ at
  pub name : slice blocks.file property.name_begin property.name_length
      ≡ name_from blocks.strings (u32_at blocks.file (at + 8))
  pub value_length : property.value_length ≡ u32_at blocks.file (at + 4)
  pub has_value : at + 12 + u32_at blocks.file (at + 4) ≤ blocks.end
  pub has_name : HasName blocks.strings (u32_at blocks.file (at + 8)) (length blocks.strings)
  pub may_have_name : IsPropertyName (name_from blocks.strings (u32_at blocks.file (at + 8)))

-- The fault of the property whose token is at this offset, whatever other properties a node has.
abbrev pub IsPropertyFault : TreeBlocks → ℕ → (is_childless : Bool) → Fault → Type 0
IsPropertyFault blocks place is_childless fault =
    (stage : Stage) → (IsTrue is_childless ↔ (child_names stage ≡ []))
    → IsFirstFault (TokenPasses blocks 0 place stage) (token_fault place) property_checks fault
