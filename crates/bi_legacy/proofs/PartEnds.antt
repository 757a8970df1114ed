use Rattle.std.proofs.Common.{◌≡◌, ℕ, ◌+◌, ◌*◌, List, [], ◌∷◌, length, map, slice_index, Bool, true, false, if◌then◌else◌, refl, ap, ◌∙◌}
use Rattle.std.proofs.Common.{suc, rules}
use Rattle.bi_base.specs.Cells.{up4}
use Rattle.bi_base.specs.Limits.{Limits}
use Rattle.bi_base.specs.Checks.{HasNoFault}
use Rattle.bi_legacy.specs.Faults.{Passes, InPartTable, HasNoLegacyFault, body_of}
use Rattle.bi_legacy.specs.PartTables.{TablePasses, table_sizes, table_checks}
use Rattle.bi_legacy.specs.Meaning.{has_part_table}
use Rattle.bi_legacy.specs.Parts.{part_table, parts_end_from, parts_end}
use Rattle.bi_legacy.specs.PartRanges.{part_slices, FitWithin, first_part_offset, part_sizes}
use Rattle.bi_legacy.specs.ReadImage.{parts_of_body, read_end}
use Rattle.bi_legacy.proofs.CheckLists.{HasNoFault-unmap}
use Rattle.bi_legacy.proofs.TableParts.{first_offset, parts_in_table}
use Rattle.bi_legacy.proofs.PartOffsets.{length-part_table}
use Rattle.bi_legacy.proofs.PartSlices.{length-slices, ends_checked}

-- The last part that is read ends where the sizes in the part table end.

-- There is a slice for each size.
pub length-part_slices : (body : List ℕ) (at : ℕ) (sizes : List ℕ) → length (part_slices body at sizes) ≡ length sizes
length-part_slices body at [] = refl
length-part_slices body at (size ∷ sizes) = ap suc (length-part_slices body (up4 (at + size)) sizes)

-- The part table of the parts that are read is as long as the one in the data.
pub first_offset_is : (body : List ℕ) → FitWithin (length body) (first_offset body) (table_sizes body) →
    length (part_table (parts_in_table body)) ≡ first_offset body
first_offset_is body ends =
    length-part_table (parts_in_table body) ∙ ap (λ n. 4 * (n + 1)) (length-part_slices body (first_offset body) (table_sizes body))

-- The last part that is read ends where the sizes in the part table end.
pub end_in_table : (body : List ℕ) → FitWithin (length body) (first_offset body) (table_sizes body) →
    parts_end_from (length (part_table (parts_in_table body))) (map length (parts_in_table body))
    ≡ parts_end_from (first_offset body) (table_sizes body)
end_in_table body ends = search (rules, first_offset_is, length-slices)

-- The same for data with or without a part table.
end_found : (has_table : Bool) (body : List ℕ) → HasNoFault (TablePasses body) (if has_table then table_checks body else []) →
    let parts = if has_table then parts_in_table body else body
    ∷ [] in parts_end_from (if has_table then length (part_table parts) else 0) (map length parts)
    ≡ parts_end_from (first_part_offset has_table body) (part_sizes has_table body)
end_found true body none = end_in_table body (ends_checked body 0 _ _ none.1)
end_found false body none = refl

-- In a file that fails no check, the last part ends where the sizes of the parts end.
pub read_end_is : (file : List ℕ) (limits : Limits) → HasNoLegacyFault limits file →
    parts_end (slice_index file 30) (parts_of_body (slice_index file 30) (body_of file)) ≡ read_end file
read_end_is file limits (short, (cell, (magic, (whole, (header_sum, (whole_data, (data_sum, parts))))))) =
    end_found (has_part_table (slice_index file 30)) (body_of file) (HasNoFault-unmap (Passes limits file) InPartTable _ parts)
