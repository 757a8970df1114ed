use Rattle.std.proofs.Common.{◌≡◌, ℕ, ◌+◌, ◌≤◌, Bool, true, false, List, [], ◌∷◌, length, arith, ap, ◌∙◌, subst, MatchBool}
use Rattle.std.specs.List.{AllByRecursion}
use Rattle.bi_base.specs.Cells.{up4, AreBytes}
use Rattle.bi_base.proofs.CellLaws.{AreBytes-slice}
use Rattle.bi_legacy.specs.File.{IsLegacyFile}
use Rattle.bi_legacy.specs.Meaning.{LegacyImage, IsTablePart, AreParts, has_part_table}
use Rattle.bi_legacy.specs.Parts.{HasPartTable}
use Rattle.bi_legacy.specs.Text.{IsLegacyImage, legacy_text}
use Rattle.bi_base.proofs.ByteLists.{AreBytes-left}
use Rattle.bi_legacy.proofs.HeaderReads.{field_read, body_read, length-file}
use Rattle.bi_legacy.proofs.TableParts.{table_parts_at}
use Rattle.bi_legacy.proofs.NormalLength.{length-normal_body, length-legacy_text, parts_end_in}
use Rattle.bi_legacy.proofs.PartOffsets.{ArePartsAt}

-- The image that a file means fits the format, and its normal text is no longer than the file.

-- Parts that are slices of bytes are bytes.
parts_at-bytes : (at : ℕ) (parts : List (List ℕ)) (body : List ℕ) → AreBytes body → ArePartsAt at parts body → AllByRecursion AreBytes parts
parts_at-bytes at [] body bytes at_offsets = tt
parts_at-bytes at (part ∷ parts) body bytes at_offsets = (
  subst AreBytes at_offsets.1 (AreBytes-slice body at (length part) bytes),
  parts_at-bytes (up4 (at + length part)) parts body bytes at_offsets.2,
)

-- The parts of data of bytes, with or without a part table, are bytes.
body_parts_bytes : (has_table : Bool) (parts : List (List ℕ)) (body : List ℕ) → AreBytes body →
    MatchBool has_table (HasPartTable parts body) (parts ≡ body ∷ []) → AllByRecursion AreBytes parts
body_parts_bytes true parts body bytes holds = parts_at-bytes _ parts body bytes (table_parts_at parts body holds)
body_parts_bytes false parts body bytes holds = rw holds (bytes, tt)

-- The parts of data, with or without a part table, are parts that such an image can have.
body_parts : (has_table : Bool) (parts : List (List ℕ)) (body : List ℕ) →
    MatchBool has_table (HasPartTable parts body) (parts ≡ body ∷ []) →
    MatchBool has_table (AllByRecursion IsTablePart parts) (length parts ≡ 1)
body_parts true parts body holds = holds.are_table_parts
body_parts false parts body holds = ap length holds

-- The parts of the image of a file are parts that its type can have.
parts_of_file : (file : List ℕ) (image : LegacyImage) (is : IsLegacyFile file image) → AreParts image.image_type image.parts
parts_of_file file image is = body_parts (has_part_table image.image_type) image.parts is.body is.parts

-- The data of a file is bytes.
body_bytes : (file : List ℕ) (image : LegacyImage) (is : IsLegacyFile file image) → AreBytes is.body
body_bytes file image is = subst AreBytes (body_read file image is) (AreBytes-slice file 64 _ is.bytes)

-- The name of the image of a file is bytes.
name_bytes : (file : List ℕ) (image : LegacyImage) (is : IsLegacyFile file image) → AreBytes image.name
name_bytes file image is =
    AreBytes-left image.name is.name.padding
    (subst AreBytes (field_read file image is ∙ is.name.field_is) (AreBytes-slice file 32 32 is.bytes))

-- The image that a file means fits the format.
pub image_of_file : (file : List ℕ) (image : LegacyImage) → IsLegacyFile file image → IsLegacyImage image
image_of_file file image is =
    let parts = parts_of_file file image is in
    record {
      ranges = is.ranges;
      name = is.name.is_name;
      name_bytes = name_bytes file image is;
      parts = parts;
      parts_bytes = body_parts_bytes (has_part_table image.image_type) image.parts is.body (body_bytes file image is) is.parts;
      size = omega (
        arith,
        length-normal_body image.image_type image.parts,
        parts_end_in image.image_type image.parts is.body is.parts,
        is.size,
      );
    }

-- The normal text of the image that a file means is no longer than the file.
pub text_no_longer : (file : List ℕ) (image : LegacyImage) → IsLegacyFile file image → length (legacy_text image) ≤ length file
text_no_longer file image is =
    omega (
      arith,
      length-file file image is,
      length-legacy_text image is.name.is_name,
      parts_end_in image.image_type image.parts is.body is.parts,
    )
