use Rattle.std.proofs.Common.{◌≡◌, ◌+◌, ◌≤◌, ℕ, suc, List, [], ◌∷◌, length, map, refl, sym, ap, subst, arith}
use Rattle.bi_base.specs.Cells.{slice, up4}
use Rattle.bi_blob.proofs.Blobs.Cells.{BytesAt, BytesAt-left, BytesAt-within}
use Rattle.bi_fit.specs.Payloads.{IsAt}
use Rattle.bi_legacy.specs.File.{IsLegacyFile}
use Rattle.bi_legacy.specs.Meaning.{LegacyImage}
use Rattle.bi_legacy.specs.Parts.{parts_start}
use Rattle.bi_legacy.specs.PlacedParts.{placed_parts, placed_parts_from}
use Rattle.bi_legacy.proofs.HeaderReads.{field_read}
use Rattle.bi_c.specs.LegacyElements.{region_of_part}

-- What a legacy image is taken apart into is in its file.

-- The name is at its place in the header.
pub name_is_there : (file : List ℕ) (image : LegacyImage) → IsLegacyFile file image → IsAt file 32 image.name
name_is_there file image is =
    let name = is.name in
    let field_at : BytesAt file 32 is.field =
    subst (λ (n : ℕ). slice file 32 n ≡ is.field) (sym name.whole) (field_read file image is) in
    let within : 32 + length is.field ≤ length file = BytesAt-within file 32 is.field (omega (arith, name.whole)) field_at in
    record {
      in_file = omega (arith, within, name.whole, name.is_name.short);
      is_slice = BytesAt-left file 32 image.name name.padding (subst (BytesAt file 32) name.field_is field_at);
    }

-- There is a region for each part.
count_from : (at : ℕ) (parts : List (List ℕ)) → length (map region_of_part (placed_parts_from at parts)) ≡ length parts
count_from at [] = refl
count_from at (part ∷ later) = ap suc (count_from (up4 (at + length part)) later)

pub part_regions_count : (image : LegacyImage) → length (map region_of_part (placed_parts image)) ≡ length image.parts
part_regions_count image = count_from (parts_start image.image_type image.parts) image.parts
