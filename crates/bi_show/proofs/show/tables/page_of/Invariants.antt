use Rattle.std.proofs.Common.{◌≡◌, flat_map, take, string_bytes}
use Rattle.bi_show.specs.Pages.{table_text}
use Rattle.bi_show.specs.Rows.{cells_of_tables}
use Rattle.bi_show.proofs.show.tables.page_of.Given as goal

-- The tables before this one were appended.
abbrev pub invariant-loop-table : goal.invariant-loop-table
invariant-loop-table l = string_bytes l.page ≡ flat_map table_text (cells_of_tables (take l.table-index l.tables))
