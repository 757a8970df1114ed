use Rattle.std.specs.Prelude.{◌≡◌, ℕ, ◌+◌, ◌-◌, ◌%◌, ◌^◌, ◌<◌, ◌≤◌, Bool, ◌==◌, if◌then◌else◌}
use Rattle.std.specs.Prelude.{zero, suc, List, [], ◌∷◌, ◌++◌, length, flat_map}
use Rattle.std.specs.List.{AllByRecursion}
use Rattle.bi_base.specs.Cells.{cell8, slice, u32_at, u64_at, AreBytes}
use Rattle.bi_base.specs.Limits.{Limits}
use Rattle.bi_blob.specs.Tokens.{Token, End, AreEncodings}
use Rattle.bi_blob.specs.Tree.{Root, FileNode, IsTree, AreProperties, tree_without_places}
use Rattle.bi_blob.specs.Tree.{depth_of}
use Rattle.bi_blob.specs.Events.{EncodeEvents, file_events_of}

-- What a devicetree blob holds (Devicetree Specification, chapter 5): the number of the boot
-- processor, the memory reservations and the tree. A file may be longer than its blob (profile of
-- this project).

-- The cells of the header, by their names in the standard (5.2).
abbrev pub magic : List ℕ → ℕ
magic file = u32_at file 0

abbrev pub totalsize : List ℕ → ℕ
totalsize file = u32_at file 4

abbrev pub off_dt_struct : List ℕ → ℕ
off_dt_struct file = u32_at file 8

abbrev pub off_dt_strings : List ℕ → ℕ
off_dt_strings file = u32_at file 12

abbrev pub off_mem_rsvmap : List ℕ → ℕ
off_mem_rsvmap file = u32_at file 16

abbrev pub version : List ℕ → ℕ
version file = u32_at file 20

abbrev pub last_comp_version : List ℕ → ℕ
last_comp_version file = u32_at file 24

abbrev pub boot_cpuid_phys : List ℕ → ℕ
boot_cpuid_phys file = u32_at file 28

abbrev pub size_dt_strings : List ℕ → ℕ
size_dt_strings file = u32_at file 32

abbrev pub size_dt_struct : List ℕ → ℕ
size_dt_struct file = u32_at file 36

-- The magic number of a blob (5.2).
abbrev pub blob_magic : ℕ
blob_magic = 0xd00dfeed

-- The least version that is accepted (profile of this project).
abbrev pub least_version : ℕ
least_version = 16

-- The version of the reader: `last_comp_version` is at most this (5.1).
abbrev pub reader_version : ℕ
reader_version = 17

-- The version whose header ends before `size_dt_struct`: in libfdt's `fdt.h` this cell is one of
-- version 17. The Devicetree Specification describes only version 17 (5.1, 5.2).
abbrev pub version_without_structure_size : ℕ
version_without_structure_size = 16

-- Whether the header has no cell `size_dt_struct`.
abbrev pub lacks_structure_size : List ℕ → Bool
lacks_structure_size file = version file == version_without_structure_size

-- The number of bytes of the header: ten cells (5.2), or nine in version 16. In a file too short
-- for the cell of its version what is read there makes no difference: neither length fits.
abbrev pub header_length : List ℕ → ℕ
header_length file = if lacks_structure_size file then 36 else 40

-- The offset of the structure block's end (5.2). If the header has no size of the block, the block
-- may extend to `totalsize` (profile of this project).
abbrev pub structure_end : List ℕ → ℕ
structure_end file =
    if lacks_structure_size file then totalsize file else off_dt_struct file + size_dt_struct file

-- The offset of the strings block's end (5.2).
abbrev pub strings_end : List ℕ → ℕ
strings_end file = off_dt_strings file + size_dt_strings file

-- The header of a blob (5.2, 5.6). The three blocks are after the header and within `totalsize`, in
-- any order, and may overlap (profile of this project). That the structure block does not end
-- before it begins (`structure_ordered`) is a condition only in version 16, where the block has no
-- size.
pub record Header (file : List ℕ) : Type 0 where
  pub whole : header_length file ≤ length file
  pub is_magic : magic file ≡ blob_magic
  pub is_read : least_version ≤ version file
  pub is_understood : last_comp_version file ≤ reader_version
  pub total_holds_header : header_length file ≤ totalsize file
  pub file_holds_total : totalsize file ≤ length file
  pub reservations_after_header : header_length file ≤ off_mem_rsvmap file
  pub reservations_aligned : off_mem_rsvmap file % 8 ≡ 0
  pub reservations_within : off_mem_rsvmap file ≤ totalsize file
  pub structure_after_header : header_length file ≤ off_dt_struct file
  pub structure_aligned : off_dt_struct file % 4 ≡ 0
  pub structure_ordered : off_dt_struct file ≤ structure_end file
  pub structure_within : structure_end file ≤ totalsize file
  pub strings_after_header : header_length file ≤ off_dt_strings file
  pub strings_within : strings_end file ≤ totalsize file

-- A memory reservation: a range of memory (5.3).
pub record Reservation : Type 0 where
  pub address : ℕ
  pub size : ℕ

-- The bytes of a pair of the memory reservation block (5.3.2).
abbrev pub pair_bytes : Reservation → List ℕ
pair_bytes reservation = cell8 reservation.address ++ cell8 reservation.size

-- The pair of two zeros that ends the memory reservation block (5.3.2).
abbrev pub end_pair : Reservation
end_pair = record { address = 0; size = 0 }

-- A reservation that the memory reservation block can hold: not both numbers are zero (5.3.2; that
-- one of size zero counts is profile of this project).
pub record IsReservation (reservation : Reservation) : Type 0 where
  pub address_fits : reservation.address < 2 ^ 64
  pub size_fits : reservation.size < 2 ^ 64
  pub some : 0 < reservation.address + reservation.size

-- The memory reservation block with these reservations (5.3.2).
abbrev pub reservation_block : List Reservation → List ℕ
reservation_block reservations = flat_map pair_bytes reservations ++ pair_bytes end_pair

-- These bytes begin with the memory reservation block that has these reservations (5.3).
pub record BeginsWithReservations (bytes : List ℕ) (reservations : List Reservation) : Type 0 where
  pub are_reservations : AllByRecursion IsReservation reservations
  pub trailing : List ℕ
  pub is_at : bytes ≡ reservation_block reservations ++ trailing

-- The pair of numbers at an offset of a file, as a reservation.
abbrev pub pair_at : List ℕ → ℕ → Reservation
pair_at file at = record { address = u64_at file at; size = u64_at file (at + 8) }

-- The reservations of this many pairs. The first pair is at an offset of a file.
abbrev pub reservations_at : List ℕ → ℕ → ℕ → List Reservation
reservations_at file at zero = []
reservations_at file at (suc count) = pair_at file at ∷ reservations_at file (at + 16) count

-- Where a file has its tree: the structure block from `begin` to `end`, and the strings block
-- (5.4, 5.5).
pub record TreeBlocks : Type 0 where
  pub file : List ℕ
  pub begin : ℕ
  pub end : ℕ
  pub strings : List ℕ

-- Where a blob has its tree (5.2).
abbrev pub tree_blocks : List ℕ → TreeBlocks
tree_blocks file = record {
  file = file;
  begin = off_dt_struct file;
  end = structure_end file;
  strings = slice file (off_dt_strings file) (size_dt_strings file);
}

-- The file is bytes, and has all of its structure block (5.4).
pub record IsReadable (blocks : TreeBlocks) : Type 0 where
  pub bytes : AreBytes blocks.file
  pub within : blocks.end ≤ length blocks.file

-- The structure block holds this tree: it begins with tokens that encode the tree, and FDT_END
-- after them (5.4.2; that bytes may follow FDT_END is profile of this project).
pub record HoldsTree (blocks : TreeBlocks) (root : Root FileNode) : Type 0 where
  pub tokens : List Token
  pub structure : List ℕ
  pub trailing : List ℕ
  pub is_at : slice blocks.file blocks.begin (blocks.end - blocks.begin) ≡ structure ++ trailing
  pub is_encoded : AreEncodings (tokens ++ End ∷ []) structure
  pub encodes : EncodeEvents blocks.strings blocks.begin tokens (file_events_of root)
  pub is_tree : IsTree AreProperties (tree_without_places root)

-- This file begins with a blob that has this boot processor, these memory reservations and this
-- tree (chapter 5; that a file may be longer than its blob is profile of this project).
pub record IsBlob (file : List ℕ) (cpu : ℕ) (reservations : List Reservation)
    (root : Root FileNode) : Type 0 where
  pub bytes : AreBytes file
  pub header : Header file
  pub is_cpu : boot_cpuid_phys file ≡ cpu
  pub reserved :
      BeginsWithReservations
      (slice file (off_mem_rsvmap file) (totalsize file - off_mem_rsvmap file)) reservations
  pub holds : HoldsTree (tree_blocks file) root

-- A file and its tree are no larger than the limits allow (profile of this project).
pub record IsWithin (bounds : Limits) (file : List ℕ) (root : Root FileNode) : Type 0 where
  pub short : length file ≤ bounds.file
  pub shallow : depth_of root ≤ bounds.depth

-- The file is a blob within the limits (profile of this project).
pub record IsBlobWithin (bounds : Limits) (file : List ℕ) : Type 0 where
  pub cpu : ℕ
  pub reservations : List Reservation
  pub root : Root FileNode
  pub blob : IsBlob file cpu reservations root
  pub within : IsWithin bounds file root
