use Rattle.std.specs.Prelude.{ℕ, ◌+◌, ◌≡◌, List, [], ◌∷◌, length}
use Rattle.std.specs.List.{AllByRecursion}
use Rattle.bi_base.specs.Cells.{up4, slice}
use Rattle.bi_legacy.specs.declared.parts.Part.{Part}
use Rattle.bi_legacy.specs.Meaning.{LegacyImage}
use Rattle.bi_legacy.specs.Parts.{parts_start}

-- The parts of an image with their offsets in its file (U-Boot, include/image.h and boot/image.c:
-- multi-file images).

-- A part, and the offset of its first byte in the file.
pub record PartModel : Type 0 where
  pub place : ℕ
  pub bytes : List ℕ

-- These parts with their offsets in the file. The first is at `at` in the data, which follows the
-- header of 64 bytes.
abbrev pub placed_parts_from : ℕ → List (List ℕ) → List PartModel
placed_parts_from at [] = []
placed_parts_from at (part ∷ parts) =
    record { place = 64 + at; bytes = part } ∷ placed_parts_from (up4 (at + length part)) parts

-- The parts of an image with their offsets.
abbrev pub placed_parts : LegacyImage → List PartModel
placed_parts image = placed_parts_from (parts_start image.image_type image.parts) image.parts

-- The part is in the file at its offset.
abbrev pub IsAtOffset : List ℕ → PartModel → Type 0
IsAtOffset file part = slice file part.place (length part.bytes) ≡ part.bytes

-- Each of these parts is in the file at its offset.
abbrev pub AreAtOffsets : List ℕ → List PartModel → Type 0
AreAtOffsets file parts = AllByRecursion (IsAtOffset file) parts

-- A part that the iterator returned, with its offset.
abbrev pub part_model : Part → PartModel
part_model part = record { place = part.place; bytes = part.bytes.now }
