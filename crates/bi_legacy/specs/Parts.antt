use Rattle.std.specs.Prelude.{ℕ, ◌+◌, ◌≡◌, List, [], ◌∷◌, ◌++◌, length, map, MatchBool}
use Rattle.std.specs.Prelude.{if◌then◌else◌}
use Rattle.std.specs.List.{AllByRecursion, flat_map}
use Rattle.bi_base.specs.Cells.{cell, up4}
use Rattle.bi_legacy.specs.Meaning.{has_part_table, IsTablePart}

-- The parts of an image in its data (U-Boot, include/image.h and boot/image.c: multi-file images).
-- The size of a part table is a multiple of four, so offsets in the data and offsets after the
-- table are aligned alike. That the bytes between the parts, and those after the last one, may be
-- any bytes is profile of this project.

-- The part table: the size of each part as a cell, and a cell of zero as its end.
abbrev pub part_table : List (List ℕ) → List ℕ
part_table parts = flat_map (λ part. cell (length part)) parts ++ cell 0

-- These bytes are the parts in order, and then any bytes. All parts but the last are followed by 0
-- to 3 bytes of padding, which round the size up to a multiple of four (U-Boot, boot/image.c:
-- image_multi_getimg).
abbrev pub ArePaddedParts : List (List ℕ) → List ℕ → Type 0
ArePaddedParts [] bytes = Unit {0}
ArePaddedParts (part ∷ []) bytes = (after : List ℕ) × (bytes ≡ part ++ after)
ArePaddedParts (part ∷ next ∷ later) bytes =
    (padding after : List ℕ) × (bytes ≡ part ++ (padding ++ after))
    × (length part + length padding ≡ up4 (length part))
    × ArePaddedParts (next ∷ later) after

-- The data is the part table of these parts, then the parts with their padding, and then any bytes.
-- It is used only for data of less than 2^32 bytes, so each size fits its cell.
pub record HasPartTable (parts : List (List ℕ)) (body : List ℕ) : Type 0 where
  pub rest : List ℕ
  pub body_is : body ≡ part_table parts ++ rest
  pub are_table_parts : AllByRecursion IsTablePart parts
  pub padded_parts : ArePaddedParts parts rest

-- The data of an image of this type holds these parts: it has their part table, for multi-file
-- images and scripts, or else it is itself the one part.
abbrev pub HoldsParts : ℕ → List ℕ → List (List ℕ) → Type 0
HoldsParts image_type body parts =
    MatchBool (has_part_table image_type) (HasPartTable parts body) (parts ≡ body ∷ [])

-- The offset in the data of the first part.
abbrev pub parts_start : ℕ → List (List ℕ) → ℕ
parts_start image_type parts = if has_part_table image_type then length (part_table parts) else 0

-- The end of the last of the parts of these sizes. Each begins at the next multiple of four from
-- the end of the one before it, the first from `end`.
abbrev pub parts_end_from : ℕ → List ℕ → ℕ
parts_end_from end [] = end
parts_end_from end (size ∷ sizes) = parts_end_from (up4 end + size) sizes

-- The end of the last part in the data, or of the part table if there are no parts.
abbrev pub parts_end : ℕ → List (List ℕ) → ℕ
parts_end image_type parts = parts_end_from (parts_start image_type parts) (map length parts)
