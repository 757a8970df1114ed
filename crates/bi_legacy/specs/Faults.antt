use Rattle.std.specs.Prelude.{ℕ, ◌+◌, ◌≤◌, ◌≡◌, List, [], ◌∷◌, ◌++◌, length, map, slice_index}
use Rattle.bi_base.specs.declared.fault.Fault.{Fault}
use Rattle.bi_base.specs.declared.fault.Cause.TheVariants.{Truncated, BadMagic, BadHeaderCrc}
use Rattle.bi_base.specs.declared.fault.Cause.TheVariants.{BadDataCrc, TooLarge}
use Rattle.bi_base.specs.Cells.{cell, slice, u32_at}
use Rattle.bi_base.specs.Crc.{crc32}
use Rattle.bi_base.specs.Limits.{Limits}
use Rattle.bi_base.specs.Checks.{IsFirstFault, HasNoFault}
use Rattle.bi_legacy.specs.File.{legacy_magic, LegacyMeans}
use Rattle.bi_legacy.specs.Meaning.{LegacyImage}
use Rattle.bi_legacy.specs.PartTables.{TableCheck, TablePasses, table_fault, body_checks}

-- The checks of a legacy image, and the fault of a file that is not one (profile of this project).

-- The data, of the size in the header, or as much of it as the file has.
abbrev pub body_of : List ℕ → List ℕ
body_of file = slice file 64 (u32_at file 12)

-- The header with zeros instead of its checksum.
abbrev pub header_without_checksum : List ℕ → List ℕ
header_without_checksum file = slice file 0 4 ++ (cell 0 ++ slice file 8 56)

-- The checks of a legacy image.
pub data Check : Type 0 where
  IsWithinLimit : Check
  HasMagicCell : Check
  HasMagic : Check
  HasHeader : Check
  HasHeaderChecksum : Check
  HasData : Check
  HasDataChecksum : Check
  InPartTable : TableCheck → Check

-- When each check passes.
abbrev pub Passes : Limits → List ℕ → Check → Type 0
Passes limits file IsWithinLimit = length file ≤ limits.file
Passes limits file HasMagicCell = 4 ≤ length file
Passes limits file HasMagic = u32_at file 0 ≡ legacy_magic
Passes limits file HasHeader = 64 ≤ length file
Passes limits file HasHeaderChecksum = u32_at file 4 ≡ crc32 (header_without_checksum file)
Passes limits file HasData = 64 + u32_at file 12 ≤ length file
Passes limits file HasDataChecksum = u32_at file 24 ≡ crc32 (body_of file)
Passes limits file (InPartTable check) = TablePasses (body_of file) check

-- The fault of a file that fails a check.
abbrev pub fault_of : Limits → Check → Fault
fault_of limits IsWithinLimit = record { cause = TooLarge; offset = limits.file }
fault_of limits HasMagicCell = record { cause = Truncated; offset = 0 }
fault_of limits HasMagic = record { cause = BadMagic; offset = 0 }
fault_of limits HasHeader = record { cause = Truncated; offset = 0 }
fault_of limits HasHeaderChecksum = record { cause = BadHeaderCrc; offset = 4 }
fault_of limits HasData = record { cause = Truncated; offset = 12 }
fault_of limits HasDataChecksum = record { cause = BadDataCrc; offset = 24 }
fault_of limits (InPartTable check) = table_fault check

-- The checks of header and data, in their order.
abbrev pub header_and_data_checks : List Check
header_and_data_checks =
    IsWithinLimit ∷ HasMagicCell ∷ HasMagic ∷ HasHeader ∷ HasHeaderChecksum ∷ HasData
    ∷ HasDataChecksum ∷ []

-- All checks of a legacy image, in their order. Byte 30 of the header is the type.
abbrev pub legacy_checks : List ℕ → List Check
legacy_checks file =
    header_and_data_checks ++ map InPartTable (body_checks (slice_index file 30) (body_of file))

-- The fault of a file: that of its first failing check.
abbrev pub IsLegacyFault : Limits → List ℕ → Fault → Type 0
IsLegacyFault limits file fault =
    IsFirstFault (Passes limits file) (fault_of limits) (legacy_checks file) fault

-- The file has this fault and no other, and means no image within the limits.
pub record IsOnlyLegacyFault (limits : Limits) (file : List ℕ) (fault : Fault) : Type 0 where
  pub is_fault : IsLegacyFault limits file fault
  pub only : (other : Fault) → IsLegacyFault limits file other → other ≡ fault
  pub means_nothing : (image : LegacyImage) → ¬ (LegacyMeans limits file image)

-- The file fails no check.
abbrev pub HasNoLegacyFault : Limits → List ℕ → Type 0
HasNoLegacyFault limits file = HasNoFault (Passes limits file) (legacy_checks file)
