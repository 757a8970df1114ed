use Rattle.std.proofs.Common.{◌≡◌, ℕ, ◌+◌, ◌*◌, ◌<◌, ◌^◌, List, ◌++◌, length, map, drop, sym, ap, ◌∙◌, subst, flat_map, Contains, rules}
use Rattle.std.proofs.lemmas.List.{length-map}
use Rattle.std.specs.List.{AllByRecursion}
use Rattle.bi_base.specs.Cells.{cell, up4, AreBytes}
use Rattle.bi_legacy.specs.PartTables.{cells_of, table_sizes}
use Rattle.bi_legacy.specs.Meaning.{IsTablePart}
use Rattle.bi_legacy.specs.Parts.{part_table, HasPartTable}
use Rattle.bi_legacy.specs.PartRanges.{part_slices, FitWithin}
use Rattle.bi_legacy.proofs.PartSlices.{length-slices, part_slices-at, part_slices-table_parts, part_slices-are, parts_at-fit}
use Rattle.bi_legacy.proofs.PartSlices.{sizes_of_parts}
use Rattle.bi_legacy.proofs.TableCells.{part_table-cells, table_sizes-cells, part_table-ends, part_table-split}
use Rattle.bi_legacy.proofs.PartOffsets.{ArePartsAt, padded_parts-at, padded_parts-from, up4_of_four, length-part_table}
use Rattle.bi_base.proofs.NulLaws.{before_nul-nonzero}

-- Data with a part table holds its parts at their offsets, and the parts that are read from the data are these.

-- A part table ends at a multiple of four.
pub part_table-aligned : (parts : List (List ℕ)) → up4 (length (part_table parts)) ≡ length (part_table parts)
part_table-aligned parts = rw (length-part_table parts) (up4_of_four (length parts + 1))

-- The parts in a part table are in the data at their offsets.
pub table_parts_at : (parts : List (List ℕ)) (body : List ℕ) → HasPartTable parts body → ArePartsAt (length (part_table parts)) parts body
table_parts_at parts body is =
    rw is.body_is (padded_parts-at (part_table parts) parts is.rest (part_table-aligned parts) is.padded_parts)

-- Data with the part table of some parts, and these parts at their offsets, holds them.
pub parts_at_table : (parts : List (List ℕ)) (body after : List ℕ) → body ≡ part_table parts ++ after → AllByRecursion IsTablePart parts →
    ArePartsAt (length (part_table parts)) parts body → HasPartTable parts body
parts_at_table parts body after list are at_offsets = search (rules, padded_parts-from, part_table-aligned)

-- The offset of the first part in data with a part table.
abbrev pub first_offset : List ℕ → ℕ
first_offset body = 4 * (length (table_sizes body) + 1)

-- The parts that are read from data with a part table.
abbrev pub parts_in_table : List ℕ → List (List ℕ)
parts_in_table body = part_slices body (first_offset body) (table_sizes body)

-- Data with a part table that has an end, and with parts that end within the data, holds these parts.
pub table_of_sizes : (body : List ℕ) → AreBytes body → Contains (cells_of body) 0 →
    FitWithin (length body) (first_offset body) (table_sizes body) → HasPartTable (parts_in_table body) body
table_of_sizes body bytes there ends =
    let sizes : map length (parts_in_table body) ≡ table_sizes body = length-slices body (first_offset body) (table_sizes body) ends in
    let first : first_offset body ≡ length (part_table (parts_in_table body)) =
    ap (λ n. 4 * (n + 1)) (ap length (sym sizes) ∙ length-map (parts_in_table body) length)
    ∙ sym (length-part_table (parts_in_table body)) in
    parts_at_table (parts_in_table body) body (drop (first_offset body) body)
    (part_table-split body bytes there
    ∙ ap (λ list. (flat_map cell list ++ cell 0) ++ drop (first_offset body) body) (sym sizes)
    ∙ ap (λ list. list ++ drop (first_offset body) body) (sym (part_table-cells (parts_in_table body))))
    (part_slices-table_parts body (first_offset body) (table_sizes body) ends (before_nul-nonzero (cells_of body)))
    (subst (λ at. ArePartsAt at (parts_in_table body) body) first (part_slices-at body (first_offset body) (table_sizes body) ends))

-- Data that holds these parts begins with the cells of their sizes and a cell of zero.
table_body : (parts : List (List ℕ)) (body : List ℕ) (is : HasPartTable parts body) →
    body ≡ (flat_map cell (map length parts) ++ cell 0) ++ is.rest
table_body parts body is = is.body_is ∙ ap (λ list. list ++ is.rest) (part_table-cells parts)

-- The sizes that are read from data that holds these parts are their sizes.
pub table_sizes_are : (parts : List (List ℕ)) (body : List ℕ) → length body < 2 ^ 32 → HasPartTable parts body →
    table_sizes body ≡ map length parts
table_sizes_are parts body fits is =
    ap table_sizes (table_body parts body is)
    ∙ table_sizes-cells (map length parts) is.rest (sizes_of_parts body _ parts fits (table_parts_at parts body is) is.are_table_parts)

-- The part table of data that holds these parts has an end.
pub table_has_end : (parts : List (List ℕ)) (body : List ℕ) → length body < 2 ^ 32 → HasPartTable parts body → Contains (cells_of body) 0
table_has_end parts body fits is =
    subst (λ bytes. Contains (cells_of bytes) 0) (sym (table_body parts body is))
    (part_table-ends (map length parts) is.rest (sizes_of_parts body _ parts fits (table_parts_at parts body is) is.are_table_parts))

-- The parts begin where the part table ends.
pub table_first_offset : (parts : List (List ℕ)) (body : List ℕ) → length body < 2 ^ 32 → HasPartTable parts body →
    first_offset body ≡ length (part_table parts)
table_first_offset parts body fits is = search (rules, table_sizes_are parts body fits is, length-map parts length, length-part_table parts)

-- The parts that are read from data that holds these parts are these.
pub table_parts_are : (parts : List (List ℕ)) (body : List ℕ) → length body < 2 ^ 32 → HasPartTable parts body → parts_in_table body ≡ parts
table_parts_are parts body fits is =
    ap (λ at. part_slices body at (table_sizes body)) (table_first_offset parts body fits is)
    ∙ ap (part_slices body (length (part_table parts))) (table_sizes_are parts body fits is)
    ∙ part_slices-are body (length (part_table parts)) parts (table_parts_at parts body is)

-- The parts that are read from data that holds some parts end within it.
pub table_parts_fit : (parts : List (List ℕ)) (body : List ℕ) → length body < 2 ^ 32 → HasPartTable parts body →
    FitWithin (length body) (first_offset body) (table_sizes body)
table_parts_fit parts body fits is =
    rw (table_first_offset parts body fits is, table_sizes_are parts body fits is)
    (parts_at-fit body (length (part_table parts)) parts (table_parts_at parts body is))
