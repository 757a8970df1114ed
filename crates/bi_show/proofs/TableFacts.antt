use Rattle.std.proofs.Common.{◌≡◌, ◌⊎◌, inl, inr, ℕ, ◌+◌, ◌<◌, ◌≤◌, max, List, [], ◌∷◌, ◌++◌, length, rules}
use Rattle.std.proofs.Common.{map, take, set, get_or}
use Rattle.std.proofs.Common.{String, string_bytes, refl, sym, ap, ◌∙◌, subst, arith}
use Rattle.std.specs.declared.alloc.Global.{Global}
use Rattle.std.specs.List.{join_by, join_with_byte}
use Rattle.std.proofs.lemmas.List.{length-map, length-take, map-append, take_more}
use Rattle.std.proofs.lemmas.List.Folds.{flat_map-map}
use Rattle.bi_common.proofs.JoinedWords.{joined_after}
use Rattle.bi_show.specs.Pages.{later_cells, wider, with_row}
use Rattle.bi_show.specs.Rows.{cells_of_row}

-- A table is written cell by cell and row by row.

wider-nil : (widths : List ℕ) → wider widths [] ≡ widths
wider-nil [] = refl
wider-nil (width ∷ widths) = refl

-- If a column has a width, one more cell in it gives the greater of both widths.
wider-set : (widths cells : List ℕ) (cell d : ℕ) → length cells < length (wider widths cells) →
    set (wider widths cells) (length cells) (max (get_or (wider widths cells) (length cells) d) cell) ≡ wider widths (cells ++ cell ∷ [])
wider-set [] cells cell d within = absurd (omega (arith, within))
wider-set (width ∷ widths) [] cell d within = ap (λ (l : List ℕ). max width cell ∷ l) (sym (wider-nil widths))
wider-set (width ∷ widths) (first ∷ cells) cell d within =
    ap (λ (l : List ℕ). max width first ∷ l) (wider-set widths cells cell d (omega (arith, within)))

-- In a new column one more cell gives its own width.
wider-push : (widths cells : List ℕ) (cell : ℕ) → length (wider widths cells) ≤ length cells →
    wider widths cells ++ cell ∷ [] ≡ wider widths (cells ++ cell ∷ [])
wider-push [] cells cell none = refl
wider-push (width ∷ widths) [] cell none = absurd (omega (arith, none))
wider-push (width ∷ widths) (first ∷ cells) cell none =
    ap (λ (l : List ℕ). max width first ∷ l) (wider-push widths cells cell (omega (arith, none)))

-- One more cell in a row adds its length to the lengths of the cells.
one_more_cell : (row : List (String Global)) (column : ℕ) (cell : String Global) → column < length row → get_or row column cell ≡ cell →
    map length (cells_of_row (take (column + 1) row)) ≡ map length (cells_of_row (take column row)) ++ length (string_bytes cell) ∷ []
one_more_cell row column cell within there = search (rules, take_more row column cell within, map-append)

cells_before : (row : List (String Global)) (column : ℕ) → column < length row →
    length (map length (cells_of_row (take column row))) ≡ column
cells_before row column within = search (rules, length-map, length-take)

-- One more cell in a row gives these widths of columns.
pub widths_with_cell : (old current : List ℕ) (row : List (String Global)) (column : ℕ) (cell : String Global) (width d : ℕ) →
    column < length row →
    get_or row column cell ≡ cell → width ≡ length (string_bytes cell) → current ≡ with_row old (cells_of_row (take column row)) →
    column < length current → set current column (max (get_or current column d) width) ≡ with_row old (cells_of_row (take (column + 1) row))
widths_with_cell old current row column cell width d within there wide is known =
    let cells = map length (cells_of_row (take column row)) in
    let many = cells_before row column within in
    let here : length cells < length (wider old cells) = omega (arith, many, known, ap length is) in
    subst (λ (k : ℕ). set current k (max (get_or current k d) width) ≡ with_row old (cells_of_row (take (column + 1) row))) many
    (ap (λ (l : List ℕ). set l (length cells) (max (get_or l (length cells) d) width)) is
    ∙ wider-set old cells width d here
    ∙ ap (λ (n : ℕ). wider old (cells ++ n ∷ [])) wide
    ∙ ap (wider old) (sym (one_more_cell row column cell within there)))

pub widths_with_new_cell : (old current : List ℕ) (row : List (String Global)) (column : ℕ) (cell : String Global) (width : ℕ) →
    column < length row →
    get_or row column cell ≡ cell → width ≡ length (string_bytes cell) → current ≡ with_row old (cells_of_row (take column row)) →
    length current ≤ column → current ++ width ∷ [] ≡ with_row old (cells_of_row (take (column + 1) row))
widths_with_new_cell old current row column cell width within there wide is none = search (rules, cells_before, wider-push, one_more_cell)

-- If no width is left, or no cell, no cell is written.
pub no_more_cells : (left : ℕ) (widths : List ℕ) (cells : List (String Global)) → (widths ≡ []) ⊎ (cells ≡ []) →
    later_cells left widths (cells_of_row cells) ≡ []
no_more_cells left [] cells none = refl
no_more_cells left (width ∷ widths) [] none = refl
no_more_cells left (width ∷ widths) (cell ∷ cells) (inl none) = absurd cc
no_more_cells left (width ∷ widths) (cell ∷ cells) (inr none) = absurd cc

-- The cells of a row, with a space between each two.
pub joined_cells : (row : List (String Global)) → join_by string_bytes (32 ∷ []) row ≡ join_with_byte 32 (cells_of_row row)
joined_cells [] = refl
joined_cells (cell ∷ row) = search (rules, joined_after, flat_map-map)
