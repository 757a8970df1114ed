use Rattle.std.specs.Prelude.{ℕ, ◌≡◌, List, length, map}
use Rattle.bi_base.specs.declared.fault.Error.{Error}
use Rattle.bi_base.specs.declared.fault.Error.TheVariants.{Refused}
use Rattle.bi_base.specs.Limits.{Limits, IsInRange}
use Rattle.bi_fit.specs.Payloads.{IsAt}
use Rattle.bi_legacy.specs.Faults.{IsOnlyLegacyFault}
use Rattle.bi_legacy.specs.Meaning.{LegacyImage}
use Rattle.bi_legacy.specs.PlacedParts.{PartModel, placed_parts}
use Rattle.bi_legacy.specs.Reading.{LegacyModel, IsReadLegacy}
use Rattle.bi_c.specs.Arguments.{bounds}
use Rattle.bi_c.specs.declared.legacy.LegacyFields.{LegacyFields}
use Rattle.bi_c.specs.declared.region.Region.{Region}

-- What calls from C that take a legacy image apart return (profile of this project).

-- The error of a call that reads a legacy image from a file in memory.
abbrev pub IsLegacyReadError : Limits → List ℕ → Error → Type 0
IsLegacyReadError limits file (Refused fault) = IsOnlyLegacyFault limits file fault
IsLegacyReadError limits file other = ⊥

-- The fields of the header. The name is at the end of the header (U-Boot, include/image.h:
-- ih_name).
abbrev pub fields_of_image : LegacyImage → LegacyFields
fields_of_image image = record {
  name = record { offset = 32; size = length image.name };
  time = image.time;
  load = image.load;
  entry = image.entry;
  os = image.os;
  arch = image.arch;
  image_type = image.image_type;
  compression = image.compression;
}

-- The fields are those of the legacy image that the file is. The name is in the file.
pub record AreLegacyFields (limit depth : ℕ) (file : List ℕ) (fields : LegacyFields) : Type 0 where
  pub limits : IsInRange limit depth
  pub image : LegacyModel
  pub is_read : IsReadLegacy (bounds limit depth) file image
  pub are_fields : fields ≡ fields_of_image image.image
  pub name_there : IsAt file fields.name.offset image.image.name

-- Where a part is.
abbrev pub region_of_part : PartModel → Region
region_of_part part = record { offset = part.place; size = length part.bytes }

-- The regions are those of the parts of the legacy image that the file is, in their order. The
-- number is that of the bytes of the file that follow the last part.
pub record ArePartRegions (limit depth : ℕ) (file : List ℕ) (regions : List Region) (value : ℕ)
    : Type 0
  where
    pub limits : IsInRange limit depth
    pub image : LegacyModel
    pub is_read : IsReadLegacy (bounds limit depth) file image
    pub are_regions : regions ≡ map region_of_part (placed_parts image.image)
    pub is_unused : value ≡ image.unused
