use Rattle.std.proofs.Common.{◌≡◌, ℕ, ◌<◌, ◌^◌, Bool, true, false, List, [], ◌∷◌, length, slice_index, sym, ap, ap₂, ◌∙◌, MatchBool}
use Rattle.std.proofs.Common.{if◌then◌else◌}
use Rattle.bi_base.specs.Strings.{before_nul}
use Rattle.bi_base.specs.Cells.{slice}
use Rattle.bi_legacy.specs.Faults.{body_of}
use Rattle.bi_legacy.specs.File.{IsLegacyFile}
use Rattle.bi_legacy.specs.Meaning.{LegacyImage, has_part_table}
use Rattle.bi_legacy.specs.Parts.{HasPartTable}
use Rattle.bi_legacy.specs.ReadImage.{read_image, parts_of_body}
use Rattle.bi_legacy.proofs.HeaderReads.{time_read, load_read, entry_read, os_read, arch_read, type_read, compression_read, field_read}
use Rattle.bi_legacy.proofs.HeaderReads.{body_read}
use Rattle.bi_legacy.proofs.TableParts.{parts_in_table, table_parts_are}
use Rattle.bi_legacy.proofs.NameField.{name_in_field}

-- A file means at most one image: the one that is read at the offsets of the fields.

-- The parts that are read from data that holds some parts are these parts.
parts_read : (has_table : Bool) (parts : List (List ℕ)) (body : List ℕ) → length body < 2 ^ 32 →
    MatchBool has_table (HasPartTable parts body) (parts ≡ body ∷ []) → (if has_table then parts_in_table body else body ∷ []) ≡ parts
parts_read true parts body fits holds = table_parts_are parts body fits holds
parts_read false parts body fits holds = sym holds

-- A file that means an image reads as this image.
pub image_read : (file : List ℕ) (image : LegacyImage) → IsLegacyFile file image → read_image file ≡ image
image_read file image is =
    let name : before_nul (slice file 32 32) ≡ image.name =
    ap before_nul (field_read file image is) ∙ name_in_field is.field image.name is.name in
    let parts : parts_of_body (slice_index file 30) (body_of file) ≡ image.parts =
    ap₂ parts_of_body (type_read file image is) (body_read file image is)
    ∙ parts_read (has_part_table image.image_type) image.parts is.body is.size is.parts in
    λ i. record {
      time = time_read file image is i;
      load = load_read file image is i;
      entry = entry_read file image is i;
      os = os_read file image is i;
      arch = arch_read file image is i;
      image_type = type_read file image is i;
      compression = compression_read file image is i;
      name = name i;
      parts = parts i;
    }

-- A file means at most one image.
pub one_legacy_meaning : (file : List ℕ) (a b : LegacyImage) → IsLegacyFile file a → IsLegacyFile file b → a ≡ b
one_legacy_meaning file a b is_a is_b = sym (image_read file a is_a) ∙ image_read file b is_b
