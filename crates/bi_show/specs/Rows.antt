use Rattle.std.specs.Prelude.{ℕ, List, Vec, String, map, string_bytes}
use Rattle.std.specs.declared.alloc.Global.{Global}
use Rattle.bi_show.specs.Pages.{Table}

-- The rows of a table, as the code has them.

-- The cells of a row.
abbrev pub cells_of_row : List (String Global) → List (List ℕ)
cells_of_row cells = map string_bytes cells

-- The cells of rows.
abbrev pub cells_of_rows : List (Vec (String Global) Global) → Table
cells_of_rows rows = map (λ row. cells_of_row row.items) rows

-- The cells of tables.
abbrev pub cells_of_tables : List (Vec (Vec (String Global) Global) Global) → List Table
cells_of_tables tables = map (λ table. cells_of_rows table.items) tables
