use Rattle.std.proofs.Common.{◌≡◌, drop, fold, []}
use Rattle.bi_show.specs.Pages.{with_row}
use Rattle.bi_show.specs.Rows.{cells_of_rows}
use Rattle.bi_show.proofs.show.tables.widths_of.Given as goal

-- The widths are those of a table with the rows before this one.
abbrev pub invariant-loop-row : goal.invariant-loop-row
invariant-loop-row l = fold with_row l.widths.items (cells_of_rows (drop l.row-index l.table)) ≡ fold with_row [] (cells_of_rows l.table)
