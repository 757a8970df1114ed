use Rattle.std.proofs.Common.{◌≡◌, ℕ, ◌+◌, List, [], ◌∷◌, length, Bool, true, false, if◌then◌else◌, refl, ap, rules}
use Rattle.std.proofs.Math.Seq.{take-length}
use Rattle.bi_base.specs.Cells.{up4}
use Rattle.bi_base.proofs.CellLaws.{length-slice}
use Rattle.bi_legacy.specs.Meaning.{has_part_table}
use Rattle.bi_legacy.specs.Parts.{part_table, parts_start}
use Rattle.bi_legacy.specs.PlacedParts.{placed_parts_from}
use Rattle.bi_legacy.specs.PartRanges.{FitWithin, placed_slices, first_part_offset, part_sizes, part_slices}
use Rattle.bi_legacy.specs.ReadImage.{parts_of_body}
use Rattle.bi_legacy.proofs.TableParts.{first_offset, parts_in_table}
use Rattle.bi_legacy.proofs.PartEnds.{length-part_slices, first_offset_is}

-- The slices of the data of an image are its parts with their offsets, one for each size.

-- Slices of data that fit in it are the parts with their offsets.
placed_slices-fit : (body : List ℕ) (at : ℕ) (sizes : List ℕ) → FitWithin (length body) at sizes →
    placed_slices body at sizes ≡ placed_parts_from at (part_slices body at sizes)
placed_slices-fit body at [] fit = refl
placed_slices-fit body at (size ∷ sizes) fit = search (rules, length-slice, placed_slices-fit body (up4 (at + size)) sizes fit.1)

-- The same for data with or without a part table.
placed_with : (has_table : Bool) (body : List ℕ) → FitWithin (length body) (first_part_offset has_table body) (part_sizes has_table body) →
    let parts = if has_table then parts_in_table body else body
    ∷ [] in placed_slices body (first_part_offset has_table body) (part_sizes has_table body)
    ≡ placed_parts_from (if has_table then length (part_table parts) else 0) parts
placed_with true body fit = search (rules, placed_slices-fit, first_offset_is)
placed_with false body fit =
    ap (λ (bytes : List ℕ). record { place = 64; bytes = bytes } ∷ []) (take-length body)

-- The slices of the data of an image of this type are its parts with their offsets.
pub placed_is : (image_type : ℕ) (body : List ℕ) →
    FitWithin (length body) (first_part_offset (has_part_table image_type) body) (part_sizes (has_part_table image_type) body) →
    placed_slices body (first_part_offset (has_part_table image_type) body) (part_sizes (has_part_table image_type) body)
    ≡ placed_parts_from (parts_start image_type (parts_of_body image_type body)) (parts_of_body image_type body)
placed_is image_type body fit = placed_with (has_part_table image_type) body fit

-- There are as many parts as sizes.
length-parts_with : (has_table : Bool) (body : List ℕ) →
    length (if has_table then parts_in_table body else body ∷ []) ≡ length (part_sizes has_table body)
length-parts_with true body = length-part_slices body (first_offset body) _
length-parts_with false body = refl

pub length-parts_of_body : (image_type : ℕ) (body : List ℕ) →
    length (parts_of_body image_type body) ≡ length (part_sizes (has_part_table image_type) body)
length-parts_of_body image_type body = length-parts_with (has_part_table image_type) body
