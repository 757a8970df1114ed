use Rattle.std.specs.Prelude.{ℕ, ◌+◌, ◌≡◌, List, length, map}
use Rattle.bi_base.specs.Limits.{Limits}
use Rattle.bi_legacy.specs.Meaning.{LegacyImage}
use Rattle.bi_legacy.specs.Parts.{parts_end}
use Rattle.bi_legacy.specs.File.{LegacyMeans}
use Rattle.bi_legacy.specs.Faults.{HasNoLegacyFault}
use Rattle.bi_legacy.specs.NormalForm.{HasNormalForm}
use Rattle.bi_legacy.specs.PlacedParts.{PartModel, placed_parts, AreAtOffsets}

-- The result of reading a legacy image (profile of this project).

-- What reading returns: the image, and how many bytes of the file follow the last part, or the part
-- table if there are no parts.
pub record LegacyModel : Type 0 where
  pub image : LegacyImage
  pub unused : ℕ

-- The offsets of the parts of an image in its file.
abbrev pub part_places : LegacyImage → List ℕ
part_places image = map (λ (part : PartModel). part.place) (placed_parts image)

-- The file means this image and no other, each part is in it at its offset, and this many of its
-- bytes follow the last part, or the part table if there are no parts. No check of the file fails,
-- and the image has a normal form.
pub record IsReadLegacy (limits : Limits) (file : List ℕ) (value : LegacyModel) : Type 0 where
  pub means : LegacyMeans limits file value.image
  pub only : (other : LegacyImage) → LegacyMeans limits file other → other ≡ value.image
  pub at_offsets : AreAtOffsets file (placed_parts value.image)
  pub unused : 64 + parts_end value.image.image_type value.image.parts + value.unused ≡ length file
  pub no_fault : HasNoLegacyFault limits file
  pub normal_form : HasNormalForm limits value.image
