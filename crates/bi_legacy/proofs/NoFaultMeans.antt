use Rattle.std.proofs.Common.{◌≡◌, ℕ, ◌+◌, Bool, true, false, List, ◌++◌, [], ◌∷◌, length, drop, slice_index, refl, ap, ◌∙◌, MatchBool}
use Rattle.std.proofs.Common.{if◌then◌else◌, rules}
use Rattle.bi_base.specs.Cells.{slice, u32_at, AreBytes}
use Rattle.bi_base.specs.Checks.{HasNoFault}
use Rattle.bi_base.specs.Limits.{Limits}
use Rattle.bi_base.proofs.CellLaws.{AreBytes-slice, length-slice, u32_at-fits}
use Rattle.bi_base.proofs.FileSlices.{drop_slice}
use Rattle.bi_legacy.specs.Faults.{Passes, InPartTable, HasNoLegacyFault, body_of}
use Rattle.bi_legacy.specs.PartTables.{TablePasses, table_checks}
use Rattle.bi_legacy.specs.File.{header, LegacyMeans}
use Rattle.bi_legacy.specs.Meaning.{FitsFields, has_part_table}
use Rattle.bi_legacy.specs.Parts.{HasPartTable}
use Rattle.bi_legacy.specs.ReadImage.{read_image}
use Rattle.bi_legacy.proofs.CheckLists.{HasNoFault-unmap}
use Rattle.bi_legacy.proofs.HeaderSplit.{header_split}
use Rattle.bi_legacy.proofs.TableParts.{parts_in_table, table_of_sizes}
use Rattle.bi_legacy.proofs.NameField.{field_holds_name}
use Rattle.bi_legacy.proofs.PartSlices.{ends_checked}

-- A file that fails no check means the image that is read at the offsets of the fields.

-- The numbers that are read from bytes fit their fields.
ranges_read : (file : List ℕ) → AreBytes file → FitsFields (read_image file)
ranges_read file bytes = search (rules, u32_at-fits)

-- Where the checks of the parts pass, the data holds the parts that are read from it.
parts_held : (has_table : Bool) (body : List ℕ) → AreBytes body →
    HasNoFault (TablePasses body) (if has_table then table_checks body else []) →
    MatchBool has_table (HasPartTable (if has_table then parts_in_table body else body ∷ []) body)
    ((if has_table then parts_in_table body else body ∷ []) ≡ body ∷ [])
parts_held true body bytes none = table_of_sizes body bytes none.0 (ends_checked body 0 _ _ none.1)
parts_held false body bytes none = refl

-- A file of bytes that fails no check means the image that is read from it.
pub no_fault_means : (file : List ℕ) (limits : Limits) → AreBytes file → HasNoLegacyFault limits file →
    LegacyMeans limits file (read_image file)
no_fault_means file limits bytes (short, (cell, (magic, (whole, (header_sum, (whole_data, (data_sum, parts))))))) =
    let size : length (body_of file) ≡ u32_at file 12 = length-slice file 64 (u32_at file 12) whole_data in
    record {
      is_file = record {
        field = slice file 32 32;
        body = body_of file;
        rest = drop (64 + u32_at file 12) file;
        file_is = header_split file bytes whole magic header_sum size data_sum
            ∙ ap (λ rest. header (read_image file) (slice file 32 32) (body_of file) ++ rest) (drop_slice file 64 (u32_at file 12));
        ranges = ranges_read file bytes;
        name = field_holds_name (slice file 32 32) (length-slice file 32 32 whole);
        size = rw size (u32_at-fits file 12 bytes);
        parts = parts_held (has_part_table (slice_index file 30)) (body_of file) (AreBytes-slice file 64 (u32_at file 12) bytes)
            (HasNoFault-unmap (Passes limits file) InPartTable _ parts);
        bytes = bytes;
      };
      short = short;
    }
