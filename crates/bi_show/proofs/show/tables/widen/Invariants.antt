use Rattle.std.proofs.Common.{◌≡◌, take}
use Rattle.bi_show.specs.Pages.{with_row}
use Rattle.bi_show.specs.Rows.{cells_of_row}
use Rattle.bi_show.proofs.show.tables.widen.Given as goal

-- The columns have the widths that the cells before this one give them.
abbrev pub invariant-loop-column : goal.invariant-loop-column
invariant-loop-column l = l.widths.items ≡ with_row l.initial.widths.items (cells_of_row (take l.column l.row))
