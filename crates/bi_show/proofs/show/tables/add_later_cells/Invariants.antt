use Rattle.std.proofs.Common.{◌≡◌, ◌++◌, string_bytes}
use Rattle.std.specs.Iterator.Adapters.{zip_first, zip_second}
use Rattle.std.specs.Slice.Iter.{iter_rest}
use Rattle.bi_show.specs.Pages.{later_cells}
use Rattle.bi_show.specs.Rows.{cells_of_row}
use Rattle.bi_show.proofs.show.tables.add_later_cells.Given as goal

-- The cells before this one were appended, and the others follow.
abbrev pub invariant-loop-width : goal.invariant-loop-width
invariant-loop-width l =
    string_bytes l.page
    ++ later_cells l.spaces (iter_rest (zip_first l.width-iterator)) (cells_of_row (iter_rest (zip_second l.width-iterator)))
    ≡ string_bytes l.initial.page ++ later_cells l.left l.widths (cells_of_row l.cells)
