use Rattle.std.specs.Prelude.{ℕ, ◌≡◌, ◌+◌, ◌*◌, List, [], ◌∷◌, length, slice_index, if◌then◌else◌}
use Rattle.bi_base.specs.Cells.{slice, u32_at}
use Rattle.bi_base.specs.Crc.{crc32}
use Rattle.bi_base.specs.Strings.{before_nul}
use Rattle.bi_legacy.specs.Meaning.{LegacyImage, has_part_table}
use Rattle.bi_legacy.specs.Parts.{parts_end_from}
use Rattle.bi_legacy.specs.Faults.{body_of}
use Rattle.bi_legacy.specs.PartTables.{table_sizes}
use Rattle.bi_legacy.specs.PartRanges.{part_sizes, first_part_offset, part_slices, IsPartTable}
use Rattle.bi_legacy.specs.declared.part_table.PartTable.{PartTable}

-- What the reader reads from the bytes of a file. No promise about the format is stated in these
-- terms.

-- The parts of the data of an image of this type: those in the part table, or the whole data.
abbrev pub parts_of_body : ℕ → List ℕ → List (List ℕ)
parts_of_body image_type body =
    if has_part_table image_type
    then part_slices body (4 * (length (table_sizes body) + 1)) (table_sizes body)
    else body ∷ []

-- The image that is read at the offsets of the fields, whether or not the file is a legacy image.
abbrev pub read_image : List ℕ → LegacyImage
read_image file =
    record {
      time = u32_at file 8;
      load = u32_at file 16;
      entry = u32_at file 20;
      os = slice_index file 28;
      arch = slice_index file 29;
      image_type = slice_index file 30;
      compression = slice_index file 31;
      name = before_nul (slice file 32 32);
      parts = parts_of_body (slice_index file 30) (body_of file);
    }

-- The end of the last part in the data, by the sizes only.
abbrev pub read_end : List ℕ → ℕ
read_end file =
    let has_table = has_part_table (slice_index file 30) in
    let body = body_of file in
    parts_end_from (first_part_offset has_table body) (part_sizes has_table body)

-- The invariant of an image that was read: the part table and the checksum of its data.
pub record IsReaderState (image_type : ℕ) (body : List ℕ) (table : PartTable) (checksum : ℕ)
    : Type 0 where
  pub is_table : IsPartTable (has_part_table image_type) body table
  pub is_checksum : checksum ≡ crc32 body
