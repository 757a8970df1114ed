use Rattle.std.proofs.Common.{◌≡◌, ◌≢◌, ℕ, ◌+◌, ◌<◌, ◌^◌, List, [], ◌∷◌, length, map, arith, refl, ap}
use Rattle.std.specs.List.{AllByRecursion}
use Rattle.bi_base.specs.Cells.{up4}
use Rattle.bi_base.specs.Checks.{HasNoFault}
use Rattle.bi_base.proofs.CellLaws.{length-slice}
use Rattle.bi_legacy.specs.PartTables.{TablePasses, part_checks}
use Rattle.bi_legacy.specs.Meaning.{IsTablePart}
use Rattle.bi_legacy.specs.PartRanges.{FitWithin, part_slices}
use Rattle.bi_legacy.proofs.TableCells.{IsSize}
use Rattle.bi_legacy.proofs.PartOffsets.{ArePartsAt}

-- Slices that end within the data are parts at their offsets, and parts at their offsets are the slices of their sizes.

-- Slices that end within the data have the sizes that they are cut by.
pub length-slices : (body : List ℕ) (at : ℕ) (sizes : List ℕ) → FitWithin (length body) at sizes →
    map length (part_slices body at sizes) ≡ sizes
length-slices body at [] ends = refl
length-slices body at (size ∷ sizes) ends =
    rw (length-slice body at size ends.0) (ap (λ list. size ∷ list) (length-slices body (up4 (at + size)) sizes ends.1))

-- Slices that end within the data are parts at their offsets.
pub part_slices-at : (body : List ℕ) (at : ℕ) (sizes : List ℕ) → FitWithin (length body) at sizes →
    ArePartsAt at (part_slices body at sizes) body
part_slices-at body at [] ends = tt
part_slices-at body at (size ∷ sizes) ends =
    rw (length-slice body at size ends.0) (ends.0, refl, part_slices-at body (up4 (at + size)) sizes ends.1)

-- Slices of sizes that are not zero are parts that a part table can have.
pub part_slices-table_parts : (body : List ℕ) (at : ℕ) (sizes : List ℕ) → FitWithin (length body) at sizes →
    AllByRecursion (λ size. size ≢ 0) sizes → AllByRecursion IsTablePart (part_slices body at sizes)
part_slices-table_parts body at [] ends nonzero = tt
part_slices-table_parts body at (size ∷ sizes) ends nonzero = (
  rw (length-slice body at size ends.0) (omega (arith, nonzero.0)),
  part_slices-table_parts body (up4 (at + size)) sizes ends.1 nonzero.1,
)

-- Parts at their offsets in data are the slices of their sizes.
pub part_slices-are : (body : List ℕ) (at : ℕ) (parts : List (List ℕ)) → ArePartsAt at parts body →
    part_slices body at (map length parts) ≡ parts
part_slices-are body at [] at_offsets = refl
part_slices-are body at (part ∷ parts) at_offsets =
    rw at_offsets.1 (ap (λ list. part ∷ list) (part_slices-are body (up4 (at + length part)) parts at_offsets.2))

-- Parts at their offsets in data end within it.
pub parts_at-fit : (body : List ℕ) (at : ℕ) (parts : List (List ℕ)) → ArePartsAt at parts body →
    FitWithin (length body) at (map length parts)
parts_at-fit body at [] at_offsets = tt
parts_at-fit body at (part ∷ parts) at_offsets = (at_offsets.0, parts_at-fit body (up4 (at + length part)) parts at_offsets.2)

-- Parts in data of less than 2^32 bytes have sizes that fit a cell.
pub sizes_of_parts : (body : List ℕ) (at : ℕ) (parts : List (List ℕ)) → length body < 2 ^ 32 → ArePartsAt at parts body →
    AllByRecursion IsTablePart parts → AllByRecursion IsSize (map length parts)
sizes_of_parts body at [] fits at_offsets are = tt
sizes_of_parts body at (part ∷ parts) fits at_offsets are =
    ((are.0, omega (arith, at_offsets.0)), sizes_of_parts body (up4 (at + length part)) parts fits at_offsets.2 are.1)

-- Where the checks of the parts pass, the parts of these sizes end within the data.
pub ends_checked : (body : List ℕ) (index at : ℕ) (sizes : List ℕ) → HasNoFault (TablePasses body) (part_checks index at sizes) →
    FitWithin (length body) at sizes
ends_checked body index at [] none = tt
ends_checked body index at (size ∷ sizes) none =
    (none.0, ends_checked body (index + 1) (up4 (at + size)) sizes none.1)

-- Where the parts of these sizes end within the data, the checks of the parts pass.
pub ends_pass : (body : List ℕ) (index at : ℕ) (sizes : List ℕ) → FitWithin (length body) at sizes →
    HasNoFault (TablePasses body) (part_checks index at sizes)
ends_pass body index at [] ends = tt
ends_pass body index at (size ∷ sizes) ends =
    (ends.0, ends_pass body (index + 1) (up4 (at + size)) sizes ends.1)
