use Rattle.std.proofs.Common.{◌≡◌, ◌≢◌, ◌==◌, ℕ, ◌+◌, ◌*◌, ◌<◌, ◌≤◌, ◌^◌, List, ◌++◌, [], ◌∷◌, length, take, drop, map, arith, refl, rules}
use Rattle.std.proofs.Common.{ap, ◌∙◌, append_assoc, append-nil, suc, zero, flat_map, Contains}
use Rattle.std.specs.Int.{from_be_bytes, w32}
use Rattle.std.specs.List.{AllByRecursion, before_first}
use Rattle.std.proofs.lemmas.Bool.{cases_lt, eqb-true, eqb-false}
use Rattle.std.proofs.lemmas.List.{length-take, take_more}
use Rattle.std.proofs.lemmas.List.Concat.{flat_map-append}
use Rattle.std.proofs.lemmas.List.Elements.{Contains-append_right}
use Rattle.std.proofs.lemmas.List.Sums.{passes_at_first, fails_before_first}
use Rattle.std.proofs.lemmas.Nat.{be_bytes_4, from_be_bytes-to_be_bytes_4}
use Rattle.bi_base.specs.Cells.{cell, AreBytes}
use Rattle.bi_base.proofs.CellLaws.{AreBytes-slice}
use Rattle.bi_legacy.specs.PartTables.{cells_of, table_sizes}
use Rattle.bi_legacy.specs.Parts.{part_table}
use Rattle.bi_base.proofs.NulLaws.{nul_index, before_nul-append}

-- A part table is the cells of its sizes and a cell of zero, and these sizes are read from it.

-- Four bytes are the cell of their number.
cell_of_bytes : (a b c d : ℕ) (later : List ℕ) → AreBytes (a ∷ b ∷ c ∷ d ∷ later) →
    cell (from_be_bytes w32 (a ∷ b ∷ c ∷ d ∷ [])) ≡ a ∷ b ∷ c ∷ d ∷ []
unfolding cell
cell_of_bytes a b c d later bytes =
    be_bytes_4 (a ∷ b ∷ c ∷ d ∷ []) _ refl (AreBytes-slice (a ∷ b ∷ c ∷ d ∷ later) 0 4 bytes).each refl

-- Bytes after four bytes are bytes.
bytes_after_cell : (a b c d : ℕ) (later : List ℕ) → AreBytes (a ∷ b ∷ c ∷ d ∷ later) → AreBytes later
bytes_after_cell a b c d later bytes = record { each = λ i. bytes.each (suc (suc (suc (suc i)))) }

-- The cells of the first numbers of some bytes are the first of the bytes.
pub cells_split : (body : List ℕ) (n : ℕ) → AreBytes body → n ≤ length (cells_of body) →
    body ≡ flat_map cell (take n (cells_of body)) ++ drop (4 * n) body
cells_split body zero bytes within = refl
cells_split [] (suc n) bytes within = absurd (omega arith)
cells_split (a ∷ []) (suc n) bytes within = absurd (omega arith)
cells_split (a ∷ b ∷ []) (suc n) bytes within = absurd (omega arith)
cells_split (a ∷ b ∷ c ∷ []) (suc n) bytes within = absurd (omega arith)
cells_split (a ∷ b ∷ c ∷ d ∷ later) (suc n) bytes within =
    let four : 4 * suc n ≡ suc (suc (suc (suc (4 * n)))) = omega arith in
    rw (four, cell_of_bytes a b c d later bytes)
    (ap (λ list. a ∷ b ∷ c ∷ d ∷ list) (cells_split later n (bytes_after_cell a b c d later bytes) (omega arith)))

-- The first number of a cell and more bytes is that of the cell.
cells_of-cell : (n : ℕ) (later : List ℕ) → n < 2 ^ 32 → cells_of (cell n ++ later) ≡ n ∷ cells_of later
unfolding cell
cells_of-cell n later fits = ap (λ first. first ∷ cells_of later) (from_be_bytes-to_be_bytes_4 n fits)

-- A size that a part table can have.
abbrev pub IsSize : ℕ → Type 0
IsSize size = (0 < size) × (size < 2 ^ 32)

-- The first numbers of cells and more bytes are those of the cells.
pub cells_of-flat_map : (sizes later : List ℕ) → AllByRecursion IsSize sizes →
    cells_of (flat_map cell sizes ++ later) ≡ sizes ++ cells_of later
cells_of-flat_map [] later are = refl
cells_of-flat_map (size ∷ sizes) later are = search (rules, append_assoc, cells_of-cell, cells_of-flat_map sizes later are.1)

-- A part table is the cells of the sizes and a cell of zero.
pub part_table-cells : (parts : List (List ℕ)) → part_table parts ≡ flat_map cell (map length parts) ++ cell 0
part_table-cells parts = ap (λ list. list ++ cell 0) (of_lengths parts)
  where
    of_lengths : (parts : List (List ℕ)) → flat_map (λ part. cell (length part)) parts ≡ flat_map cell (map length parts)
    of_lengths [] = refl
    of_lengths (part ∷ parts) = ap (λ list. cell (length part) ++ list) (of_lengths parts)

-- The first numbers of a part table and more bytes are the sizes and a zero.
sizes_read : (sizes after : List ℕ) → AllByRecursion IsSize sizes →
    cells_of ((flat_map cell sizes ++ cell 0) ++ after) ≡ sizes ++ 0 ∷ cells_of after
sizes_read sizes after are = search (rules, append_assoc, cells_of-flat_map, cells_of-cell)

-- The sizes that are read from a part table are its sizes.
pub table_sizes-cells : (sizes after : List ℕ) → AllByRecursion IsSize sizes →
    table_sizes ((flat_map cell sizes ++ cell 0) ++ after) ≡ sizes
table_sizes-cells sizes after are =
    ap (before_first (λ number. number == 0)) (sizes_read sizes after are)
    ∙ before_nul-append sizes (0 ∷ cells_of after) (nonzero sizes are) refl
  where
    nonzero : (sizes : List ℕ) → AllByRecursion IsSize sizes → AllByRecursion (λ number. number ≢ 0) sizes
    nonzero [] are = tt
    nonzero (size ∷ sizes) are = ((λ zero. omega (arith, are.0.0)), nonzero sizes are.1)

-- A part table has an end.
pub part_table-ends : (sizes after : List ℕ) → AllByRecursion IsSize sizes →
    Contains (cells_of ((flat_map cell sizes ++ cell 0) ++ after)) 0
part_table-ends sizes after are =
    rw (sizes_read sizes after are) (Contains-append_right sizes (0 ∷ cells_of after) 0 (0, omega arith, refl))

-- Numbers that contain a zero have a first one.
pub zero_within : (numbers : List ℕ) → Contains numbers 0 → nul_index numbers < length numbers
zero_within numbers there = search (rules, cases_lt, eqb-false, fails_before_first)

-- Data with a zero among its cells is the part table that is read from it, and the bytes after the table.
pub part_table-split : (body : List ℕ) → AreBytes body → Contains (cells_of body) 0 →
    body ≡ (flat_map cell (table_sizes body) ++ cell 0) ++ drop (4 * (length (table_sizes body) + 1)) body
part_table-split body bytes there =
    let cells = cells_of body in
    let place = nul_index cells in
    let within : place < length cells = zero_within cells there in
    let long : place ≡ length (table_sizes body) = omega (arith, length-take place cells) in
    let first : take (place + 1) cells ≡ table_sizes body ++ 0 ∷ [] =
    take_more cells place 0 within ∙ ap (λ n. take place cells ++ n ∷ [])
    (eqb-true _ _ (passes_at_first (λ number. number == 0) cells 0 within)) in
    let list : flat_map cell (take (place + 1) cells) ≡ flat_map cell (table_sizes body) ++ cell 0 =
    ap (flat_map cell) first ∙ flat_map-append cell (table_sizes body) (0 ∷ [])
    ∙ ap (λ end. flat_map cell (table_sizes body) ++ end) (append-nil (cell 0)) in
    cells_split body (place + 1) bytes (omega arith)
    ∙ ap (λ first. first ++ drop (4 * (place + 1)) body) list
    ∙ ap (λ n. (flat_map cell (table_sizes body) ++ cell 0) ++ drop (4 * (n + 1)) body) long
