use Rattle.std.proofs.Common.{◌≡◌, ℕ, ◌+◌, ◌-◌, ◌≤◌, List, [], ◌∷◌, length, take, Bool, true, false, MatchBool, if◌then◌else◌, arith, sym}
use Rattle.std.proofs.Common.{ap, ◌∙◌, rules}
use Rattle.std.proofs.Math.Seq.{take-length}
use Rattle.bi_base.specs.Cells.{slice, up4}
use Rattle.bi_base.proofs.CellLaws.{slice-first, slice-rest}
use Rattle.bi_legacy.specs.File.{IsLegacyFile}
use Rattle.bi_legacy.specs.Meaning.{LegacyImage, has_part_table}
use Rattle.bi_legacy.specs.Parts.{part_table, HasPartTable, parts_end}
use Rattle.bi_legacy.specs.PlacedParts.{placed_parts_from, placed_parts, AreAtOffsets}
use Rattle.bi_legacy.proofs.HeaderReads.{size_read, body_read, length-file}
use Rattle.bi_legacy.proofs.TableParts.{table_parts_at}
use Rattle.bi_legacy.proofs.NormalLength.{parts_end_in}
use Rattle.bi_legacy.proofs.PartOffsets.{ArePartsAt}

-- The parts of an image are in its file at their offsets, and end in it.

-- A slice of the data is a slice of the file, 64 bytes later.
data_slice : (file : List ℕ) (size at n : ℕ) → at + n ≤ size → slice (slice file 64 size) at n ≡ slice file (64 + at) n
data_slice file size at n within =
    let left : ℕ = size - at in
    let sum : size ≡ at + left = omega arith in
    let room : n ≤ left = omega arith in
    ap (take n) (slice-rest file 64 at size left sum) ∙ slice-first file (64 + at) n left room

-- Parts in the data are in the file, 64 bytes later.
parts_at-in_file : (file body : List ℕ) (at : ℕ) (parts : List (List ℕ)) → slice file 64 (length body) ≡ body → ArePartsAt at parts body →
    AreAtOffsets file (placed_parts_from at parts)
parts_at-in_file file body at [] there at_offsets = tt
parts_at-in_file file body at (part ∷ parts) there at_offsets = (
  sym (data_slice file (length body) at (length part) at_offsets.0) ∙ ap (λ bytes. slice bytes at (length part)) there ∙ at_offsets.1,
  parts_at-in_file file body (up4 (at + length part)) parts there at_offsets.2,
)

-- The same for data with or without a part table.
body_parts-in_file : (has_table : Bool) (file body : List ℕ) (parts : List (List ℕ)) → slice file 64 (length body) ≡ body →
    MatchBool has_table (HasPartTable parts body) (parts ≡ body ∷ []) →
    AreAtOffsets file (placed_parts_from (if has_table then length (part_table parts) else 0) parts)
body_parts-in_file true file body parts there held = parts_at-in_file file body (length (part_table parts)) parts there
    (table_parts_at parts body held)
body_parts-in_file false file body parts there alone = search (rules, parts_at-in_file, take-length)

-- The parts of an image are in its file at their offsets.
pub parts_at_offsets : (file : List ℕ) (image : LegacyImage) → IsLegacyFile file image → AreAtOffsets file (placed_parts image)
parts_at_offsets file image is =
    body_parts-in_file (has_part_table image.image_type) file is.body image.parts
    (ap (slice file 64) (sym (size_read file image is)) ∙ body_read file image is) is.parts

-- They end in the file.
pub parts_end_in_file : (file : List ℕ) (image : LegacyImage) → IsLegacyFile file image →
    64 + parts_end image.image_type image.parts ≤ length file
parts_end_in_file file image is =
    omega (arith, parts_end_in image.image_type image.parts is.body is.parts, length-file file image is)
