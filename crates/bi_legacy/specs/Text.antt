use Rattle.std.specs.Prelude.{ℕ, ◌-◌, ◌^◌, ◌<◌, List, [], ◌∷◌, ◌++◌, length, replicate}
use Rattle.std.specs.Prelude.{if◌then◌else◌}
use Rattle.std.specs.List.{AllByRecursion}
use Rattle.bi_base.specs.Cells.{up4, AreBytes}
use Rattle.bi_legacy.specs.Meaning.{LegacyImage, FitsFields, IsImageName, AreParts, has_part_table}
use Rattle.bi_legacy.specs.Parts.{part_table}
use Rattle.bi_legacy.specs.File.{header}

-- The normal form of a legacy image (profile of this project).

-- These bytes, and then zeros up to a multiple of four.
abbrev pub with_zeros : List ℕ → List ℕ
with_zeros bytes = bytes ++ replicate (up4 (length bytes) - length bytes) 0

-- The parts in order, all but the last padded.
abbrev pub joined_parts : List (List ℕ) → List ℕ
joined_parts [] = []
joined_parts (part ∷ []) = part
joined_parts (part ∷ next ∷ later) = with_zeros part ++ joined_parts (next ∷ later)

-- The normal data: for multi-file images and scripts the part table and the padded parts, else the
-- one part.
abbrev pub normal_body : ℕ → List (List ℕ) → List ℕ
normal_body image_type parts =
    if has_part_table image_type then part_table parts ++ joined_parts parts else joined_parts parts

-- The 32 bytes of the name: the name, and then zeros.
abbrev pub name_field : List ℕ → List ℕ
name_field name = name ++ replicate (32 - length name) 0

-- The normal text: the header and the normal data, and nothing after them.
unfoldable pub legacy_text : LegacyImage → List ℕ
legacy_text image =
    let body = normal_body image.image_type image.parts in
    header image (name_field image.name) body ++ body

-- The image is one that some legacy image means: its numbers, its name and its parts fit the
-- format.
pub record IsLegacyImage (image : LegacyImage) : Type 0 where
  pub ranges : FitsFields image
  pub name : IsImageName image.name
  pub name_bytes : AreBytes image.name
  pub parts : AreParts image.image_type image.parts
  pub parts_bytes : AllByRecursion AreBytes image.parts
  pub size : length (normal_body image.image_type image.parts) < 2 ^ 32
