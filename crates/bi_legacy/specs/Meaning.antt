use Rattle.std.specs.Prelude.{ℕ, ◌^◌, ◌<◌, ◌≤◌, ◌≢◌, ◌≡◌, ◌==◌, ◌||◌, Bool, List, length, MatchBool}
use Rattle.std.specs.List.{AllByRecursion}
use Rattle.bi_legacy.specs.declared.fields.Fields.{Fields}

-- The meaning of a legacy image (U-Boot, include/image.h: struct legacy_img_hdr, and the part table
-- of a multi-file image). The checksums and the data size follow from these fields.
pub record LegacyImage : Type 0 where
  pub time : ℕ
  pub load : ℕ
  pub entry : ℕ
  pub os : ℕ
  pub arch : ℕ
  pub image_type : ℕ
  pub compression : ℕ
  pub name : List ℕ
  pub parts : List (List ℕ)

-- The image of these header fields and these parts.
abbrev pub image_of : Fields → List (List ℕ) → LegacyImage
image_of fields parts =
    record {
      time = fields.time;
      load = fields.load;
      entry = fields.entry;
      os = fields.os;
      arch = fields.arch;
      image_type = fields.image_type;
      compression = fields.compression;
      name = fields.name.now;
      parts = parts;
    }

-- The image with another time of creation.
abbrev pub with_new_time : (time : ℕ) → LegacyImage → LegacyImage
with_new_time time image = record image { time = time }

-- Whether the data of this type begins with a part table, the list of the part sizes: 4 is multi, 6
-- is script (U-Boot, include/image.h: IH_TYPE_MULTI, IH_TYPE_SCRIPT).
abbrev pub has_part_table : ℕ → Bool
has_part_table image_type = (image_type == 4) || (image_type == 6)

-- A name that the header can hold: at most 32 bytes, none of them zero (U-Boot, include/image.h:
-- IH_NMLEN).
pub record IsImageName (name : List ℕ) : Type 0 where
  pub short : length name ≤ 32
  pub no_zero : AllByRecursion (λ byte. byte ≢ 0) name

-- A part that a part table can have: a size of zero ends the table (U-Boot, include/image.h).
abbrev pub IsTablePart : List ℕ → Type 0
IsTablePart part = 0 < length part

-- The parts that an image of this type can have: any number of parts in a part table, or else
-- exactly one part. That a part table may have no parts, and that the one part may be empty, is
-- profile of this project.
abbrev pub AreParts : ℕ → List (List ℕ) → Type 0
AreParts image_type parts =
    MatchBool (has_part_table image_type) (AllByRecursion IsTablePart parts) (length parts ≡ 1)

-- Each number fits its field of the header. Any code is allowed (profile of this project).
pub record FitsFields (image : LegacyImage) : Type 0 where
  pub time : image.time < 2 ^ 32
  pub load : image.load < 2 ^ 32
  pub entry : image.entry < 2 ^ 32
  pub os : image.os < 2 ^ 8
  pub arch : image.arch < 2 ^ 8
  pub image_type : image.image_type < 2 ^ 8
  pub compression : image.compression < 2 ^ 8
