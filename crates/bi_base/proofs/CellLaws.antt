use Rattle.std.proofs.Common.{◌≡◌, ℕ, ◌+◌, ◌<◌, ◌≤◌, ◌^◌, List, ◌++◌, length, take, drop, get_or, arith, refl, sym, ap, ◌∙◌, inl, inr}
use Rattle.std.specs.Int.{from_be_bytes, w32}
use Rattle.std.proofs.Math.Seq.{take-append_seam, drop-append_seam}
use Rattle.std.proofs.lemmas.Bool.{cases_lt}
use Rattle.std.proofs.lemmas.List.{get_or-take, get_or-drop, get_or_past, length-drop, length-take, length-take-le, take-take, drop-take}
use Rattle.std.proofs.lemmas.List.{drop-drop}
use Rattle.std.proofs.lemmas.Nat.{be_bytes_4}
use Rattle.bi_base.specs.Cells.{cell, u32_at, slice, AreBytes}

-- Proves what the slices and the cells of a list of bytes are: their lengths, their bounds, and that a cell is read as it was written.

-- Two lists that are equal, each of a first part and a rest, have equal parts where the first parts are equally long.
pub parts_agree : {X : Type 0} (a b x y : List X) → length a ≡ length b → a ++ x ≡ b ++ y → (a ≡ b) × (x ≡ y)
parts_agree a b x y same e = (
  sym (take-append_seam a x) ∙ ap (take (length a)) e ∙ ap (λ n. take n (b ++ y)) same ∙ take-append_seam b y,
  sym (drop-append_seam a x) ∙ ap (drop (length a)) e ∙ ap (λ n. drop n (b ++ y)) same ∙ drop-append_seam b y,
)

-- The second of three lists is the slice of the whole that begins where the first ends.
pub slice-append : (a b c : List ℕ) → slice (a ++ (b ++ c)) (length a) (length b) ≡ b
slice-append a b c = ap (take (length b)) (drop-append_seam a (b ++ c)) ∙ take-append_seam b c

-- A slice is as long as it is asked for, where the file has it all.
pub length-slice : (file : List ℕ) (at n : ℕ) → at + n ≤ length file → length (slice file at n) ≡ n
length-slice file at n within = length-take-le n (drop at file) (simp length-drop (omega arith))

-- An element of a slice is that of the file, counted from the slice's beginning.
pub get_or-slice : (file : List ℕ) (at n i : ℕ) → i < n → get_or (slice file at n) i 0 ≡ get_or file (at + i) 0
get_or-slice file at n i within = get_or-take n (drop at file) i 0 within ∙ get_or-drop at file i 0

-- A slice of bytes has bytes only.
pub AreBytes-slice : (file : List ℕ) (at n : ℕ) → AreBytes file → AreBytes (slice file at n)
AreBytes-slice file at n bytes = record {
  each = λ i. elim (cases_lt i n) as (λ _. get_or (slice file at n) i 0 < 2 ^ 8) [
    | inl within ↦ rw (get_or-slice file at n i within) (bytes.each (at + i))
    | inr past ↦ rw (get_or_past (slice file at n) i 0 (simp length-take (omega arith))) (omega arith)
  ];
}

-- A cell is four bytes.
pub length-cell : (n : ℕ) → length (cell n) ≡ 4
unfolding cell
length-cell n = refl

-- A cell of a file is the bytes that it is read from.
pub cell-u32_at : (file : List ℕ) (at : ℕ) → AreBytes file → at + 4 ≤ length file → cell (u32_at file at) ≡ slice file at 4
unfolding cell u32_at
cell-u32_at file at bytes within =
    be_bytes_4 (slice file at 4) (from_be_bytes w32 (slice file at 4)) (length-slice file at 4 within)
    (AreBytes-slice file at 4 bytes).each refl

-- The number of four bytes is below 2^32.
from_be_bytes_4-fits : (bytes : List ℕ) → ((i : ℕ) → get_or bytes i 0 < 256) → from_be_bytes w32 bytes < 2 ^ 32
from_be_bytes_4-fits bytes each =
    let a : get_or bytes 0 0 < 256 = each 0 in
    let b : get_or bytes 1 0 < 256 = each 1 in
    let c : get_or bytes 2 0 < 256 = each 2 in
    let d : get_or bytes 3 0 < 256 = each 3 in
    omega arith

-- A number that is read from a cell of bytes is below 2^32.
pub u32_at-fits : (file : List ℕ) (at : ℕ) → AreBytes file → u32_at file at < 2 ^ 32
unfolding u32_at
u32_at-fits file at bytes = from_be_bytes_4-fits (slice file at 4) (AreBytes-slice file at 4 bytes).each

-- The first bytes of a slice are one.
pub slice-first : (file : List ℕ) (at n m : ℕ) → n ≤ m → take n (slice file at m) ≡ slice file at n
slice-first file at n m le = take-take n m (drop at file) le

-- What follows them is one.
pub slice-rest : (file : List ℕ) (at n m k : ℕ) → m ≡ n + k → drop n (slice file at m) ≡ slice file (at + n) k
slice-rest file at n m k e =
    ap (λ l. drop n (take l (drop at file))) e ∙ drop-take n k (drop at file) ∙ ap (take k) (drop-drop n at file)
