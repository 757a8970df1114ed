use Rattle.std.proofs.Common.{◌≡◌, ◌++◌, flat_map, take, string_bytes}
use Rattle.bi_show.specs.Pages.{row_text}
use Rattle.bi_show.specs.Rows.{cells_of_rows}
use Rattle.bi_show.proofs.show.tables.add_table.Given as goal

-- The rows before this one were appended.
abbrev pub invariant-loop-row : goal.invariant-loop-row
invariant-loop-row l =
    string_bytes l.page ≡ string_bytes l.initial.page ++ flat_map (row_text l.widths.items) (cells_of_rows (take l.row-index l.table))
