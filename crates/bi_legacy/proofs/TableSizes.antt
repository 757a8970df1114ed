use Rattle.std.proofs.Common.{◌≡◌, ◌≢◌, ◌==◌, ℕ, ◌+◌, ◌*◌, ◌/◌, ◌<◌, ◌≤◌, List, [], ◌∷◌, length, drop, get_or, zero, suc, arith, refl}
use Rattle.std.proofs.Common.{ap, ◌∙◌, Bool, true, false, rules}
use Rattle.std.specs.List.{position_or_len}
use Rattle.std.proofs.lemmas.List.Sums.{position_or_len_is}
use Rattle.std.proofs.lemmas.List.{length-take, length-take-le, get_or-take, drop_more}
use Rattle.std.proofs.lemmas.Bool.{ne_eqb, eq-eqb}
use Rattle.bi_base.specs.Cells.{u32_at}
use Rattle.bi_legacy.specs.PartTables.{cells_of, table_sizes}
use Rattle.bi_legacy.specs.PartRanges.{part_sizes, first_part_offset}

-- Proves that the sizes in a part table are the cells that are read at their offsets.

-- The whole cells of some bytes are a quarter as many.
pub length-cells : (bytes : List ℕ) → length (cells_of bytes) ≡ length bytes / 4
length-cells [] = refl
length-cells (a ∷ []) = refl
length-cells (a ∷ b ∷ []) = refl
length-cells (a ∷ b ∷ c ∷ []) = refl
length-cells (a ∷ b ∷ c ∷ d ∷ later) = omega (arith, length-cells later)

-- A whole cell is the number at its offset.
pub get_or-cells : (bytes : List ℕ) (i : ℕ) → 4 * (i + 1) ≤ length bytes → get_or (cells_of bytes) i 0 ≡ u32_at bytes (4 * i)
unfolding u32_at
get_or-cells [] i within = absurd (omega arith)
get_or-cells (a ∷ []) i within = absurd (omega arith)
get_or-cells (a ∷ b ∷ []) i within = absurd (omega arith)
get_or-cells (a ∷ b ∷ c ∷ []) i within = absurd (omega arith)
get_or-cells (a ∷ b ∷ c ∷ d ∷ later) zero within = refl
get_or-cells (a ∷ b ∷ c ∷ d ∷ later) (suc i) within =
    let e : suc (suc (suc (suc (4 * i)))) ≡ 4 * suc i = omega arith in
    get_or-cells later i (omega arith) ∙ ap (λ n. u32_at (a ∷ b ∷ c ∷ d ∷ later) n) e

-- The sizes end at the first cell that is zero.
first_zero_is : (body : List ℕ) (count : ℕ) → ((k : ℕ) → k < count → get_or (cells_of body) k 0 ≢ 0) → 4 * (count + 1) ≤ length body →
    u32_at body (4 * count) ≡ 0 → position_or_len (λ number. number == 0) (cells_of body) ≡ count
first_zero_is body count before within ends =
    position_or_len_is (λ number. number == 0) (cells_of body) count 0 (omega (arith, length-cells body))
    (λ k below. ne_eqb (get_or (cells_of body) k 0) 0 (before k below))
    (λ _. eq-eqb (get_or (cells_of body) count 0) 0 (get_or-cells body count within ∙ ends))

-- There are as many sizes as cells before it.
pub length-table_sizes : (body : List ℕ) (count : ℕ) → ((k : ℕ) → k < count → get_or (cells_of body) k 0 ≢ 0) →
    4 * (count + 1) ≤ length body → u32_at body (4 * count) ≡ 0 → count ≡ length (table_sizes body)
length-table_sizes body count before within ends = search (rules, first_zero_is, length-take-le, length-cells)

-- A size is the number at its offset in the part table.
pub drop-table_sizes : (body : List ℕ) (i : ℕ) → 4 * (i + 1) ≤ length body → i < length (table_sizes body) →
    drop i (table_sizes body) ≡ u32_at body (4 * i) ∷ drop (i + 1) (table_sizes body)
drop-table_sizes body i within below =
    let place = position_or_len (λ number. number == 0) (cells_of body) in
    let read : get_or (table_sizes body) i 0
    ≡ u32_at body (4 * i) = get_or-take place (cells_of body) i 0 (omega (arith, length-take place (cells_of body)))
    ∙ get_or-cells body i within in
    drop_more (table_sizes body) i 0 below ∙ ap (λ size. size ∷ drop (i + 1) (table_sizes body)) read

-- The same for data that is known to have a part table.
pub drop-part_sizes : (has_table : Bool) (body : List ℕ) (i : ℕ) → has_table ≡ true → i < length (part_sizes has_table body) →
    first_part_offset has_table body ≤ length body →
    drop i (part_sizes has_table body) ≡ u32_at body (4 * i) ∷ drop (i + 1) (part_sizes has_table body)
drop-part_sizes true body i e within room = drop-table_sizes body i (omega arith) within
drop-part_sizes false body i e within room = absurd cc
