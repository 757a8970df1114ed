use Rattle.std.proofs.Common.{◌≡◌, ℕ, ◌+◌, ◌-◌, ◌*◌, ◌%◌, ◌≤◌, List, [], ◌∷◌, ◌++◌, length, take, flat_map, refl, sym, ap, ◌∙◌, arith}
use Rattle.std.proofs.Common.{append_assoc, length-append, rules}
use Rattle.std.proofs.lemmas.List.{take_at, drop_at}
use Rattle.std.proofs.Math.Seq.{take-append-add}
use Rattle.bi_base.specs.Cells.{slice}
use Rattle.bi_blob.specs.Blob.{Header, Reservation, pair_bytes, reservation_block}
use Rattle.bi_blob.specs.Layout.{blob_header, padding_to, length_before_padding, text_length, text_of_blocks}
use Rattle.bi_blob.proofs.Blobs.Cells.{length-cell8}
use Rattle.bi_blob.proofs.Blobs.Headers.{header_length-17, structure_end-17}
use Rattle.bi_blob.proofs.Texts.Header.{HasCells}

-- The blocks of a text are the slices that its header names.

-- The second of three lists is the slice where the first ends.
pub second_slice : (a b c : List ℕ) (at n : ℕ) → length a ≡ at → length b ≡ n → slice (a ++ (b ++ c)) at n ≡ b
second_slice a b c at n is_at is_n = ap (take n) (drop_at a (b ++ c) at is_at) ∙ take_at b c n is_n

-- The third of four lists is the slice where the first two end.
pub third_slice : (a b c d : List ℕ) (at n : ℕ) → length a + length b ≡ at → length c ≡ n → slice (a ++ (b ++ (c ++ d))) at n ≡ c
third_slice a b c d at n is_at is_n =
    ap (λ file. slice file at n) (sym (append_assoc a b (c ++ d)))
    ∙ second_slice (a ++ b) c d at n (length-append a b ∙ is_at) is_n

-- The fourth of five lists is the slice where the first three end.
pub fourth_slice : (a b c d e : List ℕ) (at n : ℕ) → length a + length b + length c ≡ at → length d ≡ n →
    slice (a ++ (b ++ (c ++ (d ++ e)))) at n ≡ d
fourth_slice a b c d e at n is_at is_n =
    ap (λ file. slice file at n) (sym (append_assoc a b (c ++ (d ++ e))))
    ∙ third_slice (a ++ b) c d e at n (omega (arith, length-append a b)) is_n

-- A slice from the end of the first of three lists on, and past the second, begins with the second.
pub slice_from_second : (a b c : List ℕ) (at n : ℕ) → length a ≡ at → length b ≤ n → slice (a ++ (b ++ c)) at n ≡ b ++ take (n - length b) c
slice_from_second a b c at n is_at within =
    ap (take n) (drop_at a (b ++ c) at is_at)
    ∙ ap (λ k. take k (b ++ c)) (omega arith)
    ∙ take-append-add b c (n - length b)

-- What is after five lists is after the last of them.
pub after_five : (a b c d e rest : List ℕ) → (a ++ (b ++ (c ++ (d ++ e)))) ++ rest ≡ a ++ (b ++ (c ++ (d ++ (e ++ rest))))
after_five a b c d e rest = simp append_assoc

-- A text with any bytes after it: its header and its three blocks in turn.
pub text_parts : (align cpu : ℕ) (reserved structure strings rest : List ℕ) →
    text_of_blocks align cpu reserved structure strings ++ rest
    ≡ blob_header cpu (text_length align (length reserved) (length structure) (length strings)) (length reserved) (length structure)
    (length strings)
    ++ (reserved ++ (structure ++ (strings
    ++ (padding_to align (length_before_padding (length reserved) (length structure) (length strings)) ++ rest))))
unfolding text_of_blocks
text_parts align cpu reserved structure strings rest = search (rules, after_five)

-- The memory reservation block is a whole number of pairs.
pub length-reservations : (reservations : List Reservation) → length (flat_map pair_bytes reservations) ≡ 16 * length reservations
length-reservations [] = refl
length-reservations (reservation ∷ later) = search (rules, length-append, length-cell8, length-reservations later)

-- So it ends at a multiple of eight.
pub reserved-aligned : (reservations : List Reservation) → length (reservation_block reservations) % 8 ≡ 0
reserved-aligned reservations = search (rules, length-append, length-reservations, length-cell8)

-- What has the cells of a text, and is as long at least, has the header of a blob.
pub text_header : (file : List ℕ) (cpu total reserved structure strings : ℕ) → HasCells file cpu total reserved structure strings →
    reserved % 8 ≡ 0 → length_before_padding reserved structure strings ≤ total → total ≤ length file → Header file
text_header file cpu total reserved structure strings cells aligned within long = search (rules, header_length-17, structure_end-17)
