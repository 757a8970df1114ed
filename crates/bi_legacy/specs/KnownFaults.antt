use Rattle.std.specs.Prelude.{ℕ, ◌+◌, List, [], ◌∷◌, ◌++◌, take, drop, replicate, codes}
use Rattle.bi_base.specs.declared.fault.Cause.{Cause}
use Rattle.bi_base.specs.declared.fault.Cause.TheVariants.{Truncated, BadMagic, BadHeaderCrc}
use Rattle.bi_base.specs.declared.fault.Cause.TheVariants.{BadDataCrc, BadPartTable, BadPart}
use Rattle.bi_base.specs.declared.fault.Cause.TheVariants.{EmptyPart, TooLarge, BadField}
use Rattle.bi_base.specs.Cells.{cell}
use Rattle.bi_base.specs.Limits.{Limits, widest}
use Rattle.bi_legacy.specs.Meaning.{LegacyImage}
use Rattle.bi_legacy.specs.File.{header}
use Rattle.bi_legacy.specs.Text.{name_field}
use Rattle.bi_legacy.specs.Faults.{IsLegacyFault}
use Rattle.bi_legacy.specs.Emitting.{IsEmitFault, HasNoEmitFault}
use Rattle.bi_legacy.specs.KnownImages.{kernel_image, kernel_file, multi_image}

-- Small files that are refused, and small images that cannot be written, each with its fault, by
-- which a reader can judge the definitions: each check is the first that fails in one of them
-- (profile of this project).

-- The widest limits, except for this limit on files.
abbrev pub limited_to : ℕ → Limits
limited_to limit = record { file = limit; depth = 64 }

-- A file with another byte at this offset.
abbrev pub with_byte_at : List ℕ → ℕ → ℕ → List ℕ
with_byte_at file at byte = take at file ++ (byte ∷ drop (at + 1) file)

-- A file with this type and this data, otherwise like that of the kernel image. Its checksums are
-- right.
abbrev pub file_of_data : ℕ → List ℕ → List ℕ
file_of_data image_type body =
    header (record kernel_image { image_type = image_type }) (name_field (codes "k")) body ++ body

-- A file has this fault under these limits.
abbrev pub HasLegacyFault : Limits → List ℕ → Cause → ℕ → Type 0
HasLegacyFault bounds file cause offset =
    IsLegacyFault bounds file (record { cause = cause; offset = offset })

-- Files with a wrong header or wrong data. The kernel file has 73 bytes; its load address is at 16
-- and its data at 64.
pub record LegacyFilesHaveFaults : Type 0 where
  pub past_limit : HasLegacyFault (limited_to 72) kernel_file TooLarge 72
  pub no_bytes : HasLegacyFault widest [] Truncated 0
  pub three_bytes : HasLegacyFault widest (take 3 kernel_file) Truncated 0
  pub other_magic : HasLegacyFault widest (with_byte_at kernel_file 0 0x26) BadMagic 0
  pub short_header : HasLegacyFault widest (take 63 kernel_file) Truncated 0
  pub other_checksum : HasLegacyFault widest (with_byte_at kernel_file 4 0x9c) BadHeaderCrc 4
  pub other_load : HasLegacyFault widest (with_byte_at kernel_file 18 0x81) BadHeaderCrc 4
  pub other_name : HasLegacyFault widest (with_byte_at kernel_file 63 1) BadHeaderCrc 4
  pub short_data : HasLegacyFault widest (take 72 kernel_file) Truncated 12
  pub other_data : HasLegacyFault widest (with_byte_at kernel_file 64 0x30) BadDataCrc 24
  pub other_end : HasLegacyFault widest (with_byte_at kernel_file 72 0x38) BadDataCrc 24

-- The data of a multi-file image with parts of 5 and 4 bytes: the second would end one byte after
-- the data.
abbrev pub data_with_short_part : List ℕ
data_with_short_part =
    cell 5 ++ (cell 4 ++ (cell 0 ++ (codes "hello" ++ (0xff ∷ 0xff ∷ 0xff ∷ codes "abc"))))

-- Multi-file images and scripts with a wrong part table. The checksums are right.
pub record PartTablesHaveFaults : Type 0 where
  pub no_end : HasLegacyFault widest (file_of_data 4 (cell 5)) BadPartTable 64
  pub no_end_of_script : HasLegacyFault widest (file_of_data 6 (cell 5)) BadPartTable 64
  pub no_data : HasLegacyFault widest (file_of_data 4 []) BadPartTable 64
  pub no_whole_cell : HasLegacyFault widest (file_of_data 4 (0 ∷ 0 ∷ 0 ∷ [])) BadPartTable 64
  pub unaligned_zero :
      HasLegacyFault widest (file_of_data 4 (cell 0x100 ++ cell 1)) BadPartTable 64
  pub first_part : HasLegacyFault widest (file_of_data 4 (cell 0xffffffff ++ cell 0)) BadPart 64
  pub second_part : HasLegacyFault widest (file_of_data 4 data_with_short_part) BadPart 68
  pub part_of_script : HasLegacyFault widest (file_of_data 6 data_with_short_part) BadPart 68

-- Files that fail two checks: the first gives the fault.
pub record LegacyChecksHaveOrder : Type 0 where
  pub limit_before_magic : HasLegacyFault (limited_to 3) (1 ∷ 2 ∷ 3 ∷ 4 ∷ []) TooLarge 3
  pub magic_before_length : HasLegacyFault widest (1 ∷ 2 ∷ 3 ∷ 4 ∷ []) BadMagic 0
  pub magic_before_checksum :
      HasLegacyFault widest (with_byte_at (with_byte_at kernel_file 4 0x9c) 0 0x26) BadMagic 0
  pub checksum_before_size : HasLegacyFault widest (with_byte_at kernel_file 12 1) BadHeaderCrc 4
  pub checksum_before_data :
      HasLegacyFault widest (with_byte_at (with_byte_at kernel_file 18 0x81) 64 0x30) BadHeaderCrc 4
  pub size_before_data : HasLegacyFault widest (take 64 kernel_file) Truncated 12
  pub data_before_table :
      HasLegacyFault widest (with_byte_at (file_of_data 4 (cell 5)) 67 6) BadDataCrc 24
  pub table_before_part : HasLegacyFault widest (file_of_data 4 (cell 0xffffffff)) BadPartTable 64
  pub first_before_second_part :
      HasLegacyFault widest (file_of_data 4 (cell 9 ++ (cell 9 ++ cell 0))) BadPart 64

-- An image has this fault if it is written under these limits.
abbrev pub HasEmitFault : Limits → LegacyImage → Cause → ℕ → Type 0
HasEmitFault bounds image cause offset =
    IsEmitFault bounds image (record { cause = cause; offset = offset })

-- A name that is one byte too long, and one with a zero byte.
abbrev pub long_name : List ℕ
long_name = replicate 33 0x6b

abbrev pub name_with_zero : List ℕ
name_with_zero = 0x6b ∷ 0 ∷ 0x6b ∷ []

-- Two parts. The second is empty.
abbrev pub parts_with_empty : List (List ℕ)
parts_with_empty = codes "hello" ∷ [] ∷ []

-- Images in which one check fails, next to images in which none does. The normal text of the
-- multi-file image has 87 bytes.
pub record EmitFaultsAreKnown : Type 0 where
  pub long : HasEmitFault widest (record kernel_image { name = long_name }) BadField 32
  pub zero : HasEmitFault widest (record kernel_image { name = name_with_zero }) BadField 32
  pub whole_field :
      HasNoEmitFault widest (record kernel_image { name = replicate 32 0x6b })
  pub two_parts : HasEmitFault widest (record multi_image { image_type = 2 }) BadField 30
  pub no_part : HasEmitFault widest (record kernel_image { parts = [] }) BadField 30
  pub no_table_parts : HasNoEmitFault widest (record multi_image { parts = [] })
  pub past_limit : HasEmitFault (limited_to 86) multi_image TooLarge 86
  pub at_limit : HasNoEmitFault (limited_to 87) multi_image
  pub empty_part :
      HasEmitFault widest (record multi_image { parts = parts_with_empty }) EmptyPart 68
  pub empty_part_of_script :
      HasEmitFault widest (record multi_image { image_type = 6; parts = parts_with_empty })
      EmptyPart 68
  pub empty_kernel : HasNoEmitFault widest (record kernel_image { parts = [] ∷ [] })

-- Images in which two checks fail: the first gives the fault.
pub record EmitChecksHaveOrder : Type 0 where
  pub name_before_count :
      HasEmitFault widest (record multi_image { image_type = 2; name = long_name }) BadField 32
  pub name_before_limit :
      HasEmitFault (limited_to 72) (record kernel_image { name = name_with_zero }) BadField 32
  pub name_before_part :
      HasEmitFault widest (record multi_image { name = long_name; parts = parts_with_empty })
      BadField 32
  pub count_before_limit :
      HasEmitFault (limited_to 64) (record multi_image { image_type = 2 }) BadField 30
  pub limit_before_part :
      HasEmitFault (limited_to 64) (record multi_image { parts = parts_with_empty }) TooLarge 64
  pub first_before_second_part :
      HasEmitFault widest (record multi_image { parts = [] ∷ parts_with_empty }) EmptyPart 64
