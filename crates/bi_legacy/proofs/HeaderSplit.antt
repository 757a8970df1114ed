use Rattle.std.proofs.Common.{◌≡◌, ℕ, ◌≤◌, List, ◌++◌, [], ◌∷◌, length, drop, arith, sym, ap, ◌∙◌, append_assoc, slice_index, rules}
use Rattle.std.proofs.lemmas.List.{drop_more, take_at, length-append}
use Rattle.bi_base.specs.Cells.{cell, u32_at, slice, AreBytes}
use Rattle.bi_base.specs.Crc.{crc32}
use Rattle.bi_base.proofs.CellLaws.{cell-u32_at, length-cell, length-slice}
use Rattle.bi_base.proofs.FileSlices.{drop_slice, drop_cell}
use Rattle.bi_legacy.specs.File.{header_with, header}
use Rattle.bi_legacy.specs.Faults.{body_of, header_without_checksum}
use Rattle.bi_legacy.specs.ReadImage.{read_image}

-- A file of at least a header is the header with its fields, and the bytes after it.

-- The four codes of a file, the name's bytes and what follows them.
codes_and_name : List ℕ → List ℕ
codes_and_name file =
    (slice_index file 28 ∷ slice_index file 29 ∷ slice_index file 30 ∷ slice_index file 31 ∷ []) ++ slice file 32 32

drop_codes : (file : List ℕ) → 64 ≤ length file → drop 28 file ≡ codes_and_name file ++ drop 64 file
unfolding codes_and_name
drop_codes file whole = search (rules, drop_more, drop_slice file 32 32)

-- The header's bytes after its checksum.
after_checksum : List ℕ → List ℕ
after_checksum file =
    cell (u32_at file 8) ++ (cell (u32_at file 12) ++ (cell (u32_at file 16) ++ (cell (u32_at file 20)
    ++ (cell (u32_at file 24) ++ codes_and_name file))))

-- Two lists and a rest are one list and the rest.
onto : (first second rest whole : List ℕ) → whole ≡ second ++ rest → first ++ whole ≡ (first ++ second) ++ rest
onto first second rest whole e = ap (λ list. first ++ list) e ∙ sym (append_assoc first second rest)

drop_after_checksum : (file : List ℕ) → AreBytes file → 64 ≤ length file → drop 8 file ≡ after_checksum file ++ drop 64 file
unfolding after_checksum
drop_after_checksum file bytes whole =
    drop_cell file 8 bytes (omega arith) ∙ onto _ _ _ _ (
    drop_cell file 12 bytes (omega arith) ∙ onto _ _ _ _ (
    drop_cell file 16 bytes (omega arith) ∙ onto _ _ _ _ (
    drop_cell file 20 bytes (omega arith) ∙ onto _ _ _ _ (
    drop_cell file 24 bytes (omega arith) ∙ onto _ _ _ _ (drop_codes file whole)))))

length-after_checksum : (file : List ℕ) → 64 ≤ length file → length (after_checksum file) ≡ 56
unfolding after_checksum codes_and_name
length-after_checksum file whole =
    simp (length-append, length-cell) (omega (arith, length-slice file 32 32 whole))

-- The slice after the checksum is the cells, codes and name of its fields.
slice_after_checksum : (file : List ℕ) → AreBytes file → 64 ≤ length file → slice file 8 56 ≡ after_checksum file
slice_after_checksum file bytes whole = search (rules, drop_after_checksum, take_at, after_checksum, length-after_checksum)

-- A header with the fields of a file, by the bytes after its checksum, where the size and the checksum of the data are right.
header_after_checksum : (file : List ℕ) (checksum : ℕ) → length (body_of file) ≡ u32_at file 12 → crc32 (body_of file) ≡ u32_at file 24 →
    header_with checksum (read_image file) (slice file 32 32) (body_of file) ≡ cell 0x27051956 ++ (cell checksum ++ after_checksum file)
unfolding after_checksum codes_and_name
header_after_checksum file checksum size sum = rw (size, sum)

-- The header with zeros instead of its checksum, by the bytes of the file.
header_without_checksum_is : (file : List ℕ) → AreBytes file → 64 ≤ length file → u32_at file 0 ≡ 0x27051956 →
    length (body_of file) ≡ u32_at file 12 → crc32 (body_of file) ≡ u32_at file 24 →
    header_with 0 (read_image file) (slice file 32 32) (body_of file) ≡ header_without_checksum file
header_without_checksum_is file bytes whole magic size sum =
    header_after_checksum file 0 size sum
    ∙ ap (λ first. first ++ (cell 0 ++ after_checksum file)) (ap cell (sym magic) ∙ cell-u32_at file 0 bytes (omega arith))
    ∙ ap (λ last. slice file 0 4 ++ (cell 0 ++ last)) (sym (slice_after_checksum file bytes whole))

-- A file that passes the checks of its header begins with the header of the image that is read from it.
pub header_split : (file : List ℕ) → AreBytes file → 64 ≤ length file → u32_at file 0 ≡ 0x27051956 →
    u32_at file 4 ≡ crc32 (header_without_checksum file) → length (body_of file) ≡ u32_at file 12 → u32_at file 24 ≡ crc32 (body_of file) →
    file ≡ header (read_image file) (slice file 32 32) (body_of file) ++ drop 64 file
unfolding header
header_split file bytes whole magic header_sum size data_sum =
    let after = after_checksum file in
    let sum : u32_at file 4 ≡ crc32 (header_with 0 (read_image file) (slice file 32 32) (body_of file)) =
    header_sum ∙ ap crc32 (sym (header_without_checksum_is file bytes whole magic size (sym data_sum))) in
    drop_cell file 0 bytes (omega arith)
    ∙ onto _ _ _ _ (drop_cell file 4 bytes (omega arith) ∙ onto _ _ _ _ (drop_after_checksum file bytes whole))
    ∙ ap (λ n. (cell n ++ (cell (u32_at file 4) ++ after)) ++ drop 64 file) magic
    ∙ ap (λ n. (cell 0x27051956 ++ (cell n ++ after)) ++ drop 64 file) sum
    ∙ ap (λ first. first ++ drop 64 file) (sym (header_after_checksum file _ size (sym data_sum)))
