use Rattle.std.proofs.Common.{◌≡◌, ℕ, ◌+◌, List, [], ◌∷◌, ◌++◌, String, Vec, string_bytes, append_assoc, rules}
use Rattle.std.specs.declared.alloc.Global.{Global}
use Rattle.std.proofs.lemmas.List.{map-append}
use Rattle.bi_show.specs.Pages.{Table}
use Rattle.bi_show.specs.Rows.{cells_of_rows, cells_of_row}

-- Rows are added to a table one after the other.

-- One more row comes before those that follow it.
pub one_more_row : (rows new : List (Vec (String Global) Global)) (row : Vec (String Global) Global) (cells : List (List ℕ))
    (later all : Table) →
    new ≡ rows ++ row ∷ [] → cells_of_row row.items ≡ cells → cells_of_rows rows ++ cells ∷ later ≡ all → cells_of_rows new ++ later ≡ all
one_more_row rows new row cells later all is same whole = search (rules, map-append, append_assoc)

-- A cell is added to a row.
pub last_cell : (row new : List (String Global)) (cell : String Global) (before : List (List ℕ)) (text : List ℕ) → new ≡ row ++ cell ∷ [] →
    cells_of_row row ≡ before → string_bytes cell ≡ text → cells_of_row new ≡ before ++ text ∷ []
last_cell row new cell before text is same shown = search (rules, map-append)
