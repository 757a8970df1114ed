use Rattle.std.specs.Prelude.{ℕ, List, [], ◌∷◌, ◌++◌, take, replicate, flat_map, codes}
use Rattle.bi_base.specs.declared.fault.Cause.{Cause}
use Rattle.bi_base.specs.declared.fault.Cause.TheVariants.{Truncated, BadMagic, BadTotalSize}
use Rattle.bi_base.specs.declared.fault.Cause.TheVariants.{BadVersion, BadOffset, BadToken}
use Rattle.bi_base.specs.declared.fault.Cause.TheVariants.{BadName, BadNameOffset}
use Rattle.bi_base.specs.declared.fault.Cause.TheVariants.{PropertyAfterChild, DuplicateProperty}
use Rattle.bi_base.specs.declared.fault.Cause.TheVariants.{DuplicateNode, TooDeep, TooLarge}
use Rattle.bi_base.specs.Limits.{Limits, widest}
use Rattle.bi_blob.specs.Tokens.{Token, BeginNode, EndNode, Prop, End}
use Rattle.bi_blob.specs.Blob.{reservation_block}
use Rattle.bi_blob.specs.BlobFaults.{IsBlobFault}
use Rattle.bi_blob.specs.Layout.{text_of_blocks, encoding}
use Rattle.bi_blob.specs.KnownTexts.{smallest_text}
pub use Rattle.bi_base.specs.Limits.{widest}
pub use Rattle.bi_blob.specs.KnownBlobs.{with_cell}
use Rattle.bi_blob.specs.KnownBlobs.{cells, file_of_version_16, smallest_of_version_16}

-- Small files that are refused, each with its fault, by which a reader can judge the definitions:
-- each check of a header and of a token is the first that fails in one of them (profile of this
-- project).

-- A file of a header, no memory reservations, a structure block of these tokens and this strings
-- block. The first token is at offset 56.
abbrev pub file_of : List Token → List ℕ → List ℕ
file_of tokens strings =
    text_of_blocks 4 0 (reservation_block []) (flat_map encoding tokens) strings

-- A file whose root holds FDT_END.
abbrev pub file_with_end_in_root : List ℕ
file_with_end_in_root = file_of (BeginNode [] ∷ End ∷ []) []

-- A file whose root has two children `images`.
abbrev pub file_with_two_children : List ℕ
file_with_two_children =
    file_of
    (BeginNode [] ∷ BeginNode (codes "images") ∷ EndNode ∷ BeginNode (codes "images") ∷ EndNode
    ∷ EndNode ∷ End ∷ [])
    []

-- A file whose root has a property `x` after its child.
abbrev pub file_with_late_property : List ℕ
file_with_late_property =
    file_of
    (BeginNode [] ∷ BeginNode (codes "images") ∷ EndNode ∷ Prop 0 [] ∷ EndNode ∷ End ∷ [])
    (codes "x" ++ 0 ∷ [])

-- A file whose root has a property with the name at this offset of a strings block that has only
-- the name `x`.
abbrev pub file_with_property : ℕ → List ℕ
file_with_property name_offset =
    file_of (BeginNode [] ∷ Prop name_offset [] ∷ EndNode ∷ End ∷ []) (codes "x" ++ 0 ∷ [])

-- A file whose root has two properties `x`. Its strings block has the name twice.
abbrev pub file_with_two_properties : List ℕ
file_with_two_properties =
    file_of
    (BeginNode [] ∷ Prop 0 [] ∷ Prop 2 [] ∷ EndNode ∷ End ∷ [])
    (codes "x" ++ (0 ∷ (codes "x" ++ 0 ∷ [])))

-- A file whose root has a child with this name.
abbrev pub file_with_child : List ℕ → List ℕ
file_with_child name = file_of (BeginNode [] ∷ BeginNode name ∷ EndNode ∷ EndNode ∷ End ∷ []) []

-- A file whose root has a property with a name that begins inside the strings block and does not
-- end there.
abbrev pub file_with_endless_name : List ℕ
file_with_endless_name =
    file_of (BeginNode [] ∷ Prop 2 [] ∷ EndNode ∷ End ∷ []) (codes "x" ++ (0 ∷ codes "y"))

-- The smallest text with sixteen bytes after it.
abbrev pub longer_file : List ℕ
longer_file = smallest_text ++ replicate 16 0

-- Only the header of version 16, with all offsets 0.
abbrev pub header_of_version_16 : List ℕ
header_of_version_16 = cells (0xd00dfeed ∷ 36 ∷ 0 ∷ 0 ∷ 0 ∷ 16 ∷ 16 ∷ 0 ∷ 0 ∷ [])

-- A file has this fault under these limits.
abbrev pub HasFault : Limits → List ℕ → Cause → ℕ → Type 0
HasFault bounds file cause offset =
    IsBlobFault bounds file (record { cause = cause; offset = offset })

-- Files with wrong headers. `totalsize` is at 4, `off_dt_struct` at 8, `off_dt_strings` at 12,
-- `off_mem_rsvmap` at 16, `version` at 20, `last_comp_version` at 24, `size_dt_strings` at 32 and
-- `size_dt_struct` at 36 (Devicetree Specification, 5.2).
pub record HeadersHaveFaults : Type 0 where
  pub past_limit : HasFault (record { file = 87; depth = 64 }) smallest_text TooLarge 87
  pub no_bytes : HasFault widest [] Truncated 0
  pub three_bytes : HasFault widest (take 3 smallest_text) Truncated 0
  pub other_magic : HasFault widest (1 ∷ 2 ∷ 3 ∷ 4 ∷ []) BadMagic 0
  pub short_header : HasFault widest (take 39 smallest_text) Truncated 0
  pub version_15 : HasFault widest (with_cell smallest_text 20 15) BadVersion 20
  pub compatible_18 : HasFault widest (with_cell smallest_text 24 18) BadVersion 24
  pub total_39 : HasFault widest (with_cell smallest_text 4 39) BadTotalSize 4
  pub total_past_end : HasFault widest (with_cell smallest_text 4 89) Truncated 4
  pub reservations_in_header : HasFault widest (with_cell smallest_text 16 32) BadOffset 16
  pub reservations_unaligned : HasFault widest (with_cell smallest_text 16 84) BadOffset 16
  pub reservations_past_end : HasFault widest (with_cell smallest_text 16 96) BadOffset 16
  pub structure_in_header : HasFault widest (with_cell smallest_text 8 36) BadOffset 8
  pub structure_unaligned : HasFault widest (with_cell smallest_text 8 54) BadOffset 8
  pub structure_past_end : HasFault widest (with_cell smallest_text 8 0xfffffffc) BadOffset 8
  pub strings_in_header : HasFault widest (with_cell smallest_text 12 39) BadOffset 12
  pub strings_past_end : HasFault widest (with_cell smallest_text 12 0xffffffff) BadOffset 12
  pub reservations_past_total : HasFault widest (with_cell longer_file 16 96) BadOffset 16
  pub structure_past_total : HasFault widest (with_cell longer_file 36 36) BadOffset 8
  pub strings_past_total : HasFault widest (with_cell longer_file 32 4) BadOffset 12

-- Files that fail two checks of the header: the first gives the fault.
pub record HeaderChecksHaveOrder : Type 0 where
  pub limit_before_magic :
      HasFault (record { file = 3; depth = 64 }) (1 ∷ 2 ∷ 3 ∷ 4 ∷ []) TooLarge 3
  pub length_before_version : HasFault widest (take 39 (with_cell smallest_text 20 15)) Truncated 0
  pub version_before_compatible :
      HasFault widest (with_cell (with_cell smallest_text 20 15) 24 18) BadVersion 20
  pub version_before_total :
      HasFault widest (with_cell (with_cell smallest_text 20 15) 4 39) BadVersion 20
  pub compatible_before_total :
      HasFault widest (with_cell (with_cell smallest_text 24 18) 4 39) BadVersion 24
  pub reservations_before_structure :
      HasFault widest (with_cell (with_cell smallest_text 16 84) 8 0xfffffffc) BadOffset 16
  pub structure_before_strings :
      HasFault widest (with_cell (with_cell smallest_text 8 0xfffffffc) 12 39) BadOffset 8

-- Wrong files of version 16: their header has 36 bytes, and their structure block may extend to
-- `totalsize`.
pub record Version16HasFaults : Type 0 where
  pub short_header : HasFault widest (take 35 header_of_version_16) Truncated 0
  pub no_blocks : HasFault widest header_of_version_16 BadOffset 16
  pub compatible_18 : HasFault widest (with_cell smallest_of_version_16 24 18) BadVersion 24
  pub total_35 : HasFault widest (with_cell smallest_of_version_16 4 35) BadTotalSize 4
  pub reservations_in_header :
      HasFault widest (with_cell smallest_of_version_16 16 32) BadOffset 16
  pub structure_in_header : HasFault widest (with_cell smallest_of_version_16 8 32) BadOffset 8
  pub structure_past_end : HasFault widest (with_cell smallest_of_version_16 8 92) BadOffset 8
  pub strings_in_header : HasFault widest (with_cell smallest_of_version_16 12 35) BadOffset 12
  pub as_version_17 : HasFault widest (with_cell file_of_version_16 20 17) BadOffset 8
  pub structure_at_end : HasFault widest (with_cell smallest_of_version_16 8 88) Truncated 88
  pub structure_cut :
      HasFault widest (with_cell (with_cell smallest_of_version_16 4 84) 12 84) Truncated 84

-- Files with wrong memory reservations: the first pair extends past `totalsize`, at the end of the
-- file or inside it; the block begins at `totalsize`; there is no pair of two zeros.
pub record ReservationsHaveFaults : Type 0 where
  pub past_end : HasFault widest (with_cell smallest_text 16 80) Truncated 80
  pub at_end : HasFault widest (with_cell smallest_text 16 88) Truncated 88
  pub past_total : HasFault widest (with_cell longer_file 16 80) Truncated 80
  pub endless : HasFault widest (with_cell smallest_text 44 1) Truncated 88

-- Files with a wrong token. In the smallest text the root's token is at 56, that of `images` at 64,
-- both FDT_END_NODE at 76 and 80, and FDT_END at 84; `size_dt_struct` is at 36 (Devicetree
-- Specification, 5.2, 5.4).
pub record TokensHaveFaults : Type 0 where
  pub no_number : HasFault widest (with_cell smallest_text 36 28) Truncated 84
  pub unknown_number : HasFault widest (with_cell smallest_text 56 5) BadToken 56
  pub end_in_root : HasFault widest file_with_end_in_root BadToken 64
  pub too_deep : HasFault (record { file = 0x7fffffff; depth = 1 }) smallest_text TooDeep 64
  pub endless_node_name : HasFault widest (with_cell smallest_text 36 18) Truncated 64
  pub named_root : HasFault widest (with_cell smallest_text 60 0x78000000) BadName 56
  pub child_with_slash : HasFault widest (file_with_child (codes "a/b")) BadName 64
  pub empty_child_name : HasFault widest (file_with_child []) BadName 64
  pub second_child_of_name : HasFault widest file_with_two_children DuplicateNode 80
  pub after_child : HasFault widest file_with_late_property PropertyAfterChild 80
  pub value_past_end : HasFault widest (with_cell (file_with_property 0) 68 9) Truncated 64
  pub no_property_name : HasFault widest (file_with_property 2) BadNameOffset 64
  pub endless_property_name : HasFault widest file_with_endless_name BadNameOffset 64
  pub empty_property_name : HasFault widest (file_with_property 1) BadName 64
  pub second_property_of_name : HasFault widest file_with_two_properties DuplicateProperty 76

-- Files that fail two checks of a token: the first gives the fault. A name that does not end
-- before the end of the structure block is read to the zero byte after it.
pub record TokenChecksHaveOrder : Type 0 where
  pub depth_before_end_of_name :
      HasFault (record { file = 0x7fffffff; depth = 1 }) (with_cell smallest_text 36 18) TooDeep 64
  pub depth_before_name :
      HasFault (record { file = 0x7fffffff; depth = 1 }) (file_with_child (codes "a/b")) TooDeep 64
  pub end_of_name_before_name :
      HasFault widest (with_cell (file_with_child (codes "a/b")) 36 14) Truncated 64
  pub end_of_name_before_new :
      HasFault widest (with_cell file_with_two_children 36 32) Truncated 80
  pub child_before_value :
      HasFault widest (with_cell file_with_late_property 84 0xffff) PropertyAfterChild 80
  pub value_before_name_offset :
      HasFault widest (with_cell (file_with_property 2) 68 9) Truncated 64
