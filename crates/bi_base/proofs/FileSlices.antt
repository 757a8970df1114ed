use Rattle.std.proofs.Common.{◌≡◌, ℕ, ◌+◌, ◌<◌, ◌≤◌, ◌^◌, List, ◌++◌, length, drop, sym, ap, ◌∙◌}
use Rattle.std.specs.Int.{from_be_bytes, w32}
use Rattle.std.proofs.lemmas.List.{take-append-drop, drop-drop}
use Rattle.std.proofs.lemmas.Nat.{from_be_bytes-to_be_bytes_4}
use Rattle.bi_base.specs.Cells.{cell, u32_at, slice, AreBytes}
use Rattle.bi_base.proofs.CellLaws.{cell-u32_at}

-- The bytes from an offset on are the slice or the cell there and the bytes after it, and a cell is read as its number.

-- The bytes from an offset on are a slice there and the bytes after the slice.
pub drop_slice : (file : List ℕ) (at n : ℕ) → drop at file ≡ slice file at n ++ drop (at + n) file
drop_slice file at n = sym (take-append-drop n (drop at file)) ∙ ap (λ rest. slice file at n ++ rest) (drop-drop n at file)

-- The bytes from an offset on are the cell there and the bytes after it.
pub drop_cell : (file : List ℕ) (at : ℕ) → AreBytes file → at + 4 ≤ length file → drop at file ≡ cell (u32_at file at) ++ drop (at + 4) file
drop_cell file at bytes within =
    drop_slice file at 4 ∙ ap (λ first. first ++ drop (at + 4) file) (sym (cell-u32_at file at bytes within))

-- The number at the offset of a cell is that of the cell.
pub cell_read : (file : List ℕ) (at n : ℕ) → n < 2 ^ 32 → slice file at 4 ≡ cell n → u32_at file at ≡ n
unfolding cell u32_at
cell_read file at n fits there = ap (from_be_bytes w32) there ∙ from_be_bytes-to_be_bytes_4 n fits
