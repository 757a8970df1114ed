use Rattle.std.specs.Prelude.{ℕ, ◌+◌, ◌-◌, ◌*◌, ◌^◌, ◌<◌, ◌≤◌, ◌≡◌, Bool, List, [], ◌∷◌, length}
use Rattle.std.specs.Prelude.{map, if◌then◌else◌}
use Rattle.std.specs.List.{AllByRecursion}
use Rattle.bi_base.specs.Cells.{slice, up4}
use Rattle.bi_legacy.specs.declared.part_table.PartTable.{PartTable}
use Rattle.bi_legacy.specs.declared.part_ranges.PartRange.{PartRange}
use Rattle.bi_legacy.specs.Parts.{parts_end_from}
use Rattle.bi_legacy.specs.PartTables.{table_sizes}
use Rattle.bi_legacy.specs.PlacedParts.{PartModel}

-- Where the reader finds the parts in the data of an image. It finds them only by the sizes: no
-- promise about the format is stated in these terms.

-- The sizes of the parts: those in the part table, or the size of the data, which is the one part.
abbrev pub part_sizes : Bool → List ℕ → List ℕ
part_sizes has_table body = if has_table then table_sizes body else length body ∷ []

-- The offset of the first part in the data.
abbrev pub first_part_offset : Bool → List ℕ → ℕ
first_part_offset has_table body = if has_table then 4 * (length (table_sizes body) + 1) else 0

-- The ranges of parts of these sizes, the first at `at` and each later one at the next multiple of
-- four.
abbrev pub part_ranges : ℕ → List ℕ → List PartRange
part_ranges at [] = []
part_ranges at (size ∷ sizes) =
    record { start = at; size = size } ∷ part_ranges (up4 (at + size)) sizes

-- The bytes of the data in a range, with their offset in the file.
abbrev pub placed_slice : List ℕ → PartRange → PartModel
placed_slice body range =
    record { place = 64 + range.start; bytes = slice body range.start range.size }

-- The bytes of the data in the ranges of parts of these sizes, with their offsets in the file.
abbrev pub placed_slices : List ℕ → ℕ → List ℕ → List PartModel
placed_slices body at sizes = map (placed_slice body) (part_ranges at sizes)

-- The same bytes without their offsets.
abbrev pub part_slices : List ℕ → ℕ → List ℕ → List (List ℕ)
part_slices body at sizes = map (λ (part : PartModel). part.bytes) (placed_slices body at sizes)

-- A range ends within this many bytes.
abbrev pub EndsWithin : ℕ → PartRange → Type 0
EndsWithin most range = range.start + range.size ≤ most

-- The ranges of parts of these sizes end within this many bytes.
abbrev pub FitWithin : ℕ → ℕ → List ℕ → Type 0
FitWithin most at sizes = AllByRecursion (EndsWithin most) (part_ranges at sizes)

-- A part table that was read: the number of parts of some data and where the last one ends. All
-- parts end within the data.
pub record IsPartTable (has_table : Bool) (body : List ℕ) (table : PartTable) : Type 0 where
  pub count : table.part_count ≡ length (part_sizes has_table body)
  pub room : first_part_offset has_table body ≤ length body
  pub fit : FitWithin (length body) (first_part_offset has_table body) (part_sizes has_table body)
  pub end : table.end
      ≡ parts_end_from (first_part_offset has_table body) (part_sizes has_table body)
  pub within : table.end ≤ length body
  pub small : length body < 2 ^ 31

-- The invariant of an iterator over ranges: part `index` starts at `start`. No later start can
-- overflow.
pub record IsRangesState (has_table : Bool) (body : List ℕ) (part_count index start : ℕ)
    : Type 0 where
  pub count : part_count ≡ length (part_sizes has_table body)
  pub begun : index ≤ part_count
  pub room : first_part_offset has_table body ≤ length body
  pub small : length body < 2 ^ 31
  pub no_overflow : start + (part_count - index) * 2 ^ 33 < 2 ^ 63
