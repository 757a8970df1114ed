use Rattle.std.specs.Prelude.{ℕ, ◌-◌, ◌==◌, max, List, [], ◌∷◌, ◌++◌, codes, fold, length, map}
use Rattle.std.specs.Prelude.{flat_map, replicate, if◌then◌else◌}

-- Pages for people: tables with aligned columns (profile of this project).

-- A table: rows of cells. A cell is a text.
abbrev pub Table : Type 0
Table = List (List (List ℕ))

-- The greater of each two widths. If only one list has a width, that width is taken.
abbrev pub wider : List ℕ → List ℕ → List ℕ
wider [] others = others
wider (width ∷ widths) [] = width ∷ widths
wider (width ∷ widths) (other ∷ others) = max width other ∷ wider widths others

-- The widths of columns with one more row.
abbrev pub with_row : (widths : List ℕ) → (row : List (List ℕ)) → List ℕ
with_row widths row = wider widths (map length row)

-- The width of each column of a table: that of its widest cell.
abbrev pub column_widths : Table → List ℕ
column_widths table = fold with_row [] table

-- The cells of a row after the first one. Spaces fill the column before each cell up to its width,
-- and two more spaces follow.
abbrev pub later_cells : (left : ℕ) → (widths : List ℕ) → (cells : List (List ℕ)) → List ℕ
later_cells left (width ∷ widths) (cell ∷ later) =
    replicate left 32 ++ (32 ∷ 32 ∷ (cell ++ later_cells (width - length cell) widths later))
later_cells left widths cells = []

-- A row, in columns of these widths. No space is at the end of the line, unless the last cell ends
-- with one.
abbrev pub row_text : (widths : List ℕ) → (row : List (List ℕ)) → List ℕ
row_text (width ∷ widths) (cell ∷ later) =
    cell ++ (later_cells (width - length cell) widths later ++ 10 ∷ [])
row_text widths row = 10 ∷ []

-- A table, and an empty line after it. A table with one row is left out: it has only a heading.
abbrev pub table_text : Table → List ℕ
table_text (first ∷ next ∷ later) =
    let table = first ∷ next ∷ later in
    flat_map (row_text (column_widths table)) table ++ 10 ∷ []
table_text table = []

-- The last lines of a page: what `check` writes, below a heading, or that there are no concerns.
abbrev pub concerns_text_of_page : (concerns : List ℕ) → List ℕ
concerns_text_of_page concerns =
    if length concerns == 0 then codes "no concerns\n" else codes "concerns\n" ++ concerns

-- A page: its tables, and what `check` writes.
abbrev pub page_text : List Table → (concerns : List ℕ) → List ℕ
page_text tables concerns = flat_map table_text tables ++ concerns_text_of_page concerns
