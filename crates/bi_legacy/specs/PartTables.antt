use Rattle.std.specs.Prelude.{ℕ, ◌+◌, ◌*◌, ◌≤◌, ◌==◌, List, [], ◌∷◌, length, if◌then◌else◌}
use Rattle.std.specs.Int.{from_be_bytes, w32}
use Rattle.std.specs.List.{before_first, Contains}
use Rattle.bi_base.specs.declared.fault.Fault.{Fault}
use Rattle.bi_base.specs.declared.fault.Cause.TheVariants.{BadPartTable, BadPart}
use Rattle.bi_base.specs.Cells.{up4}
use Rattle.bi_legacy.specs.Meaning.{has_part_table}

-- The checks of the part table of multi-file images and scripts (profile of this project).

-- The numbers of the whole cells of these bytes, in order.
abbrev pub cells_of : List ℕ → List ℕ
cells_of (a ∷ b ∷ c ∷ d ∷ later) = from_be_bytes w32 (a ∷ b ∷ c ∷ d ∷ []) ∷ cells_of later
cells_of bytes = []

-- The part sizes in a part table: the cells before the first zero.
abbrev pub table_sizes : List ℕ → List ℕ
table_sizes body = before_first (λ number. number == 0) (cells_of body)

-- A check of a part table: the table has an end; or part `index`, which ends at `end` in the data,
-- is inside the data.
pub data TableCheck : Type 0 where
  HasTableEnd : TableCheck
  HasPart : (index : ℕ) → (end : ℕ) → TableCheck

-- When each of them passes.
abbrev pub TablePasses : List ℕ → TableCheck → Type 0
TablePasses body HasTableEnd = Contains (cells_of body) 0
TablePasses body (HasPart index end) = end ≤ length body

-- The fault of a file that fails a check.
abbrev pub table_fault : TableCheck → Fault
table_fault HasTableEnd = record { cause = BadPartTable; offset = 64 }
table_fault (HasPart index end) = record { cause = BadPart; offset = 64 + 4 * index }

-- The checks of parts of these sizes. The first of them is part `index`, which begins at `at` in
-- the data.
abbrev pub part_checks : ℕ → ℕ → List ℕ → List TableCheck
part_checks index at [] = []
part_checks index at (size ∷ sizes) =
    HasPart index (at + size) ∷ part_checks (index + 1) (up4 (at + size)) sizes

-- The checks of the data of multi-file images and scripts, in their order.
abbrev pub table_checks : List ℕ → List TableCheck
table_checks body =
    let sizes = table_sizes body in HasTableEnd ∷ part_checks 0 (4 * (length sizes + 1)) sizes

-- The checks of the data of an image of this type.
abbrev pub body_checks : ℕ → List ℕ → List TableCheck
body_checks image_type body = if has_part_table image_type then table_checks body else []
