use Rattle.std.specs.Prelude.{ℕ, ◌^◌, ◌<◌, ◌≤◌, ◌≡◌, List, [], ◌∷◌, ◌++◌, length}
use Rattle.bi_base.specs.Cells.{cell, u32_at, AreBytes}
use Rattle.bi_base.specs.Crc.{crc32}
use Rattle.bi_base.specs.Limits.{Limits}
use Rattle.bi_base.specs.Strings.{IsEmptyOrBeginsWithNul}
use Rattle.bi_legacy.specs.Meaning.{LegacyImage, FitsFields, IsImageName}
use Rattle.bi_legacy.specs.Parts.{HoldsParts}

-- The magic number of a legacy image (U-Boot, include/image.h: IH_MAGIC).
abbrev pub legacy_magic : ℕ
legacy_magic = 0x27051956

-- The file has four bytes, and these are the magic number.
pub record BeginsWithMagic (file : List ℕ) : Type 0 where
  pub whole : 4 ≤ length file
  pub magic : u32_at file 0 ≡ legacy_magic

-- The 64 bytes of a header with this header checksum, data size and data checksum (U-Boot,
-- include/image.h: struct legacy_img_hdr). `field` is the 32 bytes of the name.
abbrev pub header_cells : ℕ → ℕ → ℕ → LegacyImage → List ℕ → List ℕ
header_cells checksum size sum image field =
    cell legacy_magic ++ (cell checksum ++ (cell image.time ++ (cell size ++ (cell image.load
    ++ (cell image.entry ++ (cell sum
    ++ ((image.os ∷ image.arch ∷ image.image_type ∷ image.compression ∷ []) ++ field)))))))

-- The header of this data with this number as its header checksum.
abbrev pub header_with : ℕ → LegacyImage → List ℕ → List ℕ → List ℕ
header_with checksum image field body = header_cells checksum (length body) (crc32 body) image field

-- The header. Its checksum is that of the header itself with zeros instead of the checksum.
unfoldable pub header : LegacyImage → List ℕ → List ℕ → List ℕ
header image field body = header_with (crc32 (header_with 0 image field body)) image field body

-- The name in the 32 bytes of its field: the bytes before the first zero. That any bytes may follow
-- that zero, and that a name may have all 32 bytes, is profile of this project.
pub record HoldsName (field name : List ℕ) : Type 0 where
  pub padding : List ℕ
  pub field_is : field ≡ name ++ padding
  pub padding_is : IsEmptyOrBeginsWithNul padding
  pub whole : length field ≡ 32
  pub is_name : IsImageName name

-- The file is a legacy image with this meaning: header, data, and then any bytes (profile of this
-- project).
pub record IsLegacyFile (file : List ℕ) (image : LegacyImage) : Type 0 where
  pub field : List ℕ
  pub body : List ℕ
  pub rest : List ℕ
  pub file_is : file ≡ header image field body ++ (body ++ rest)
  pub ranges : FitsFields image
  pub name : HoldsName field image.name
  pub size : length body < 2 ^ 32
  pub parts : HoldsParts image.image_type body image.parts
  pub bytes : AreBytes file

-- The file is no longer than the limit, and has this meaning.
pub record LegacyMeans (limits : Limits) (file : List ℕ) (image : LegacyImage) : Type 0 where
  pub is_file : IsLegacyFile file image
  pub short : length file ≤ limits.file
