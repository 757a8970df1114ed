use Rattle.std.specs.Prelude.{◌≡◌, ℕ, ◌+◌, List, [], ◌∷◌, ◌++◌, take, drop, flat_map, codes}
use Rattle.bi_base.specs.Cells.{cell}
use Rattle.bi_base.specs.Limits.{widest}
use Rattle.bi_blob.specs.Tree.{none, node, Root, FileNode, tree_without_places}
use Rattle.bi_blob.specs.Tokens.{Token, BeginNode, Prop, Nop}
use Rattle.bi_blob.specs.Stages.{Inside}
use Rattle.bi_blob.specs.Blob.{Reservation, tree_blocks, IsBlob, IsWithin}
use Rattle.bi_blob.specs.BlobFaults.{ArePassed, place_after, stage_after}
use Rattle.bi_blob.specs.KnownTexts.{smallest_tree, smallest_text}

-- Small files that are accepted, each with what it holds as a blob, by which a reader can judge the
-- definitions (Devicetree Specification, chapter 5). In some of them, bytes that may be anything
-- are `ff` (which bytes these are is profile of this project).

-- A file with another number in the cell at this offset.
abbrev pub with_cell : List ℕ → ℕ → ℕ → List ℕ
with_cell file at number = take at file ++ (cell number ++ drop (at + 4) file)

-- These cells, one after the other.
abbrev pub cells : List ℕ → List ℕ
cells numbers = flat_map cell numbers

-- A file is a blob of these within the widest limits.
pub record IsKnownBlob (file : List ℕ) (cpu : ℕ) (reservations : List Reservation)
    (root : Root FileNode) : Type 0 where
  pub blob : IsBlob file cpu reservations root
  pub within : IsWithin widest file root

-- The smallest tree, with its root at this place, and its child at this one.
abbrev pub smallest_tree_at : (root_place child_place : ℕ) → Root FileNode
smallest_tree_at root_place child_place = record {
  own = record { place = root_place; properties = [] };
  children = node (codes "images") (record { place = child_place; properties = [] }) none none;
}

-- Version 17. Each token has FDT_NOP before it. The property `name` comes before `filename`, and
-- its name is the end of that name. The strings block (at 56) comes before the structure block (at
-- 68), and free bytes come after both.
abbrev pub file_with_nops : List ℕ
file_with_nops =
    cells (0xd00dfeed ∷ 176 ∷ 68 ∷ 56 ∷ 40 ∷ 17 ∷ 16 ∷ 0 ∷ 9 ∷ 92 ∷ [])
    ++ (cells (0 ∷ 0 ∷ 0 ∷ 0 ∷ [])
    ++ (cells (0x66696c65 ∷ 0x6e616d65 ∷ 0x00ffffff ∷ [])
    ++ (cells (4 ∷ 1 ∷ 0x00ffffff ∷ 4 ∷ 3 ∷ 1 ∷ 4 ∷ 0x02ffffff ∷ 4 ∷ 3 ∷ 1 ∷ 0 ∷ 0x01ffffff ∷ [])
    ++ (cells (4 ∷ 1 ∷ 0x696d6167 ∷ 0x657300ff ∷ 4 ∷ 2 ∷ 4 ∷ 2 ∷ 4 ∷ 9 ∷ [])
    ++ cells (0xffffffff ∷ 0xffffffff ∷ 0xffffffff ∷ 0xffffffff ∷ [])))))

-- Its tree.
abbrev pub tree_with_nops : Root FileNode
tree_with_nops = record {
  own = record {
    place = 72;
    properties = record { name = codes "name"; value = 2 ∷ []; place = 84 }
        ∷ record { name = codes "filename"; value = 1 ∷ []; place = 104 }
        ∷ [];
  };
  children = node (codes "images") (record { place = 124; properties = [] }) none none;
}

-- Version 17. The strings block is the structure block (at 56): the name of the property is that
-- of the child.
abbrev pub file_with_overlap : List ℕ
file_with_overlap =
    cells (0xd00dfeed ∷ 100 ∷ 56 ∷ 56 ∷ 40 ∷ 17 ∷ 16 ∷ 0 ∷ 44 ∷ 44 ∷ [])
    ++ (cells (0 ∷ 0 ∷ 0 ∷ 0 ∷ [])
    ++ cells (1 ∷ 0 ∷ 3 ∷ 0 ∷ 24 ∷ 1 ∷ 0x696d6167 ∷ 0x65730000 ∷ 2 ∷ 2 ∷ 9 ∷ []))

-- Its tree.
abbrev pub tree_with_overlap : Root FileNode
tree_with_overlap = record {
  own = record {
    place = 56;
    properties = record { name = codes "images"; value = []; place = 64 } ∷ [];
  };
  children = node (codes "images") (record { place = 76; properties = [] }) none none;
}

-- Version 18, which a reader of version 17 can read. The strings block comes right after the
-- header, then the structure block (at 44) and the memory reservation block (at 104). Boot
-- processor 3; one reservation has size 0. Four bytes follow the blob.
abbrev pub file_of_version_18 : List ℕ
file_of_version_18 =
    cells (0xd00dfeed ∷ 152 ∷ 44 ∷ 40 ∷ 104 ∷ 18 ∷ 17 ∷ 3 ∷ 2 ∷ 56 ∷ [])
    ++ (cells (0x7800ffff ∷ [])
    ++ (cells (1 ∷ 0 ∷ 3 ∷ 5 ∷ 0 ∷ 0x61626364 ∷ 0x65ffffff ∷ [])
    ++ (cells (1 ∷ 0x6b65726e ∷ 0x656c4031 ∷ 0x00ffffff ∷ 2 ∷ 2 ∷ 9 ∷ [])
    ++ (cells (0xffffffff ∷ [])
    ++ (cells (0 ∷ 0x1000 ∷ 0 ∷ 0 ∷ 1 ∷ 0 ∷ 0 ∷ 16 ∷ 0 ∷ 0 ∷ 0 ∷ 0 ∷ [])
    ++ cells (0xffffffff ∷ []))))))

-- Its memory reservations.
abbrev pub reservations_of_version_18 : List Reservation
reservations_of_version_18 =
    record { address = 0x1000; size = 0 } ∷ record { address = 0x100000000; size = 16 } ∷ []

-- Its tree.
abbrev pub tree_of_version_18 : Root FileNode
tree_of_version_18 = record {
  own = record {
    place = 44;
    properties = record { name = codes "x"; value = codes "abcde"; place = 52 } ∷ [];
  };
  children = node (codes "kernel@1") (record { place = 72; properties = [] }) none none;
}

-- Version 16. The structure block (at 36) comes right after the header, then free bytes and the
-- memory reservation block (at 72).
abbrev pub file_of_version_16 : List ℕ
file_of_version_16 =
    cells (0xd00dfeed ∷ 88 ∷ 36 ∷ 68 ∷ 72 ∷ 16 ∷ 16 ∷ 0 ∷ 0 ∷ [])
    ++ (cells (1 ∷ 0 ∷ 1 ∷ 0x696d6167 ∷ 0x65730000 ∷ 2 ∷ 2 ∷ 9 ∷ [])
    ++ cells (0xffffffff ∷ 0 ∷ 0 ∷ 0 ∷ 0 ∷ []))

-- The smallest text with version 16, and with free bytes where version 17 has the size of the
-- structure block.
abbrev pub smallest_of_version_16 : List ℕ
smallest_of_version_16 = with_cell (with_cell smallest_text 20 16) 36 0xffffffff

-- Files that are blobs.
pub record FilesAreBlobs : Type 0 where
  pub smallest : IsKnownBlob smallest_text 0 [] (smallest_tree_at 56 64)
  pub nops : IsKnownBlob file_with_nops 0 [] tree_with_nops
  pub overlap : IsKnownBlob file_with_overlap 0 [] tree_with_overlap
  pub version_18 : IsKnownBlob file_of_version_18 3 reservations_of_version_18 tree_of_version_18
  pub version_16 : IsKnownBlob file_of_version_16 0 [] (smallest_tree_at 36 44)
  pub version_16_padded : IsKnownBlob smallest_of_version_16 0 [] (smallest_tree_at 56 64)
  pub same_tree : tree_without_places (smallest_tree_at 36 44) ≡ smallest_tree
  pub same_tree_padded : tree_without_places (smallest_tree_at 56 64) ≡ smallest_tree

-- The tokens of the file with FDT_NOP up to and including the start of `images`, the newest first.
abbrev pub tokens_to_images : List Token
tokens_to_images =
    BeginNode (codes "images") ∷ Nop ∷ Prop 0 (1 ∷ []) ∷ Nop ∷ Prop 4 (2 ∷ []) ∷ Nop
    ∷ BeginNode [] ∷ Nop ∷ []

-- How a structure block is read: these tokens pass their checks, the next one is at 136, and
-- `images` is open inside the root. Tokens are listed with the newest first, and so are open nodes
-- with the innermost first; names are listed in their order.
pub record TokensAreNewestFirst : Type 0 where
  pub passed : ArePassed (tree_blocks file_with_nops) 64 tokens_to_images
  pub place : place_after (tree_blocks file_with_nops) tokens_to_images ≡ 136
  pub stage : stage_after (tree_blocks file_with_nops).strings tokens_to_images
      ≡ Inside
      (record { properties = []; children = [] })
      (record {
        properties = codes "name" ∷ codes "filename" ∷ [];
        children = codes "images" ∷ [];
      }
      ∷ [])
