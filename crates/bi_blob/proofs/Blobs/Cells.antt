use Rattle.std.proofs.Common.{rules}
use Rattle.std.proofs.Common.{◌≡◌, ℕ, ◌+◌, ◌-◌, ◌<◌, ◌≤◌, ◌^◌, List, ◌++◌, length, take, drop, get_or, refl, sym, ap, ◌∙◌}
use Rattle.std.specs.Int.{from_be_bytes, w32, w64}
use Rattle.std.proofs.lemmas.List.{length-drop, length-take, take_at, drop_at, drop-drop, take-append-drop, append_assoc}
use Rattle.std.proofs.lemmas.Nat.{be_bytes_8, from_be_bytes-to_be_bytes_4, from_be_bytes-to_be_bytes_8}
use Rattle.bi_base.specs.Cells.{cell, cell8, slice, u32_at, u64_at, AreBytes}
use Rattle.bi_base.proofs.CellLaws.{length-cell, length-slice, AreBytes-slice, cell-u32_at}

-- Proves what it means that bytes or cells are at an offset of a file, and that they are read there.

-- These bytes are at this offset of a file.
abbrev pub BytesAt : List ℕ → ℕ → List ℕ → Type 0
BytesAt file at bytes = slice file at (length bytes) ≡ bytes

-- Bytes that the rest of a file from an offset on begins with are there.
pub BytesAt-from : (file : List ℕ) (at : ℕ) (bytes rest : List ℕ) → drop at file ≡ bytes ++ rest → BytesAt file at bytes
BytesAt-from file at bytes rest e = ap (take (length bytes)) e ∙ take_at bytes rest (length bytes) refl

-- The rest of a file from an offset on begins with the bytes there.
pub BytesAt-drop : (file : List ℕ) (at : ℕ) (bytes : List ℕ) → BytesAt file at bytes → drop at file ≡ bytes ++ drop (at + length bytes) file
BytesAt-drop file at bytes e =
    sym (take-append-drop (length bytes) (drop at file))
    ∙ ap (λ l. l ++ drop (length bytes) (drop at file)) e
    ∙ ap (λ l. bytes ++ l) (drop-drop (length bytes) at file)

-- Bytes at an offset are within the file.
pub BytesAt-within : (file : List ℕ) (at : ℕ) (bytes : List ℕ) → 0 < length bytes → BytesAt file at bytes → at + length bytes ≤ length file
BytesAt-within file at bytes some e = search (rules, length-take, length-drop)

-- The first of two lists at an offset is there.
pub BytesAt-left : (file : List ℕ) (at : ℕ) (a b : List ℕ) → BytesAt file at (a ++ b) → BytesAt file at a
BytesAt-left file at a b e = BytesAt-from file at a (b ++ drop (at + length (a ++ b)) file)
    (BytesAt-drop file at (a ++ b) e ∙ append_assoc a b _)

-- The second is after it.
pub BytesAt-right : (file : List ℕ) (at : ℕ) (a b : List ℕ) → BytesAt file at (a ++ b) → BytesAt file (at + length a) b
BytesAt-right file at a b e =
    BytesAt-from file (at + length a) b (drop (at + length (a ++ b)) file)
    (sym (drop-drop (length a) at file)
    ∙ ap (drop (length a)) (BytesAt-drop file at (a ++ b) e ∙ append_assoc a b _)
    ∙ drop_at a (b ++ drop (at + length (a ++ b)) file) (length a) refl)

-- Two lists, one after the other, are there together.
pub BytesAt-join : (file : List ℕ) (at : ℕ) (a b : List ℕ) → BytesAt file at a → BytesAt file (at + length a) b → BytesAt file at (a ++ b)
BytesAt-join file at a b one other =
    BytesAt-from file at (a ++ b) (drop (at + length a + length b) file)
    (search (rules, BytesAt-drop, append_assoc))

-- A cell at an offset is read there.
pub u32_at-BytesAt : (file : List ℕ) (at n : ℕ) → n < 2 ^ 32 → BytesAt file at (cell n) → u32_at file at ≡ n
unfolding u32_at cell
u32_at-BytesAt file at n fits e = ap (from_be_bytes w32) e ∙ from_be_bytes-to_be_bytes_4 n fits

-- The cell that is read at an offset is there.
pub BytesAt-cell : (file : List ℕ) (at : ℕ) → AreBytes file → at + 4 ≤ length file → BytesAt file at (cell (u32_at file at))
BytesAt-cell file at bytes within =
    ap (slice file at) (length-cell (u32_at file at)) ∙ sym (cell-u32_at file at bytes within)

-- Two cells are eight bytes.
pub length-cell8 : (n : ℕ) → length (cell8 n) ≡ 8
unfolding cell8
length-cell8 n = refl

-- Two numbers of 64 bits with the same two cells are one number.
pub cell8_agree : (m n : ℕ) → m < 2 ^ 64 → n < 2 ^ 64 → cell8 m ≡ cell8 n → m ≡ n
unfolding cell8
cell8_agree m n m_fits n_fits e = search (rules, from_be_bytes-to_be_bytes_8)

-- Two cells at an offset are read there.
pub u64_at-BytesAt : (file : List ℕ) (at n : ℕ) → n < 2 ^ 64 → BytesAt file at (cell8 n) → u64_at file at ≡ n
unfolding u64_at cell8
u64_at-BytesAt file at n fits e = ap (from_be_bytes w64) e ∙ from_be_bytes-to_be_bytes_8 n fits

-- The two cells that are read at an offset are there.
pub BytesAt-cell8 : (file : List ℕ) (at : ℕ) → AreBytes file → at + 8 ≤ length file → BytesAt file at (cell8 (u64_at file at))
unfolding u64_at cell8
BytesAt-cell8 file at bytes within =
    sym (be_bytes_8 (slice file at 8) (from_be_bytes w64 (slice file at 8)) (length-slice file at 8 within)
    (AreBytes-slice file at 8 bytes).each refl)

-- The number of eight bytes is below 2^64.
from_be_bytes_8-fits : (bytes : List ℕ) → ((i : ℕ) → get_or bytes i 0 < 256) → from_be_bytes w64 bytes < 2 ^ 64
from_be_bytes_8-fits bytes each = search rules

-- A number that is read from two cells of bytes is below 2^64.
pub u64_at-fits : (file : List ℕ) (at : ℕ) → AreBytes file → u64_at file at < 2 ^ 64
unfolding u64_at
u64_at-fits file at bytes = from_be_bytes_8-fits (slice file at 8) (AreBytes-slice file at 8 bytes).each
