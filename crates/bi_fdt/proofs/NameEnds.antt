use Rattle.std.proofs.Common.{◌≡◌, ℕ, zero, suc, ◌+◌, ◌-◌, ◌*◌, ◌++◌, ◌<◌, ◌≤◌, List, [], ◌∷◌, length}
use Rattle.std.proofs.Common.{take, drop, slice_index_or, refl, sym, ap, ◌∙◌, arith, rules}
use Rattle.std.proofs.Math.Nat.{eq-or-lt_of_le}
use Rattle.std.proofs.Math.Seq.{drop-nil}
use Rattle.std.proofs.lemmas.List.{length-drop, get_or_append_left, get_or-append_right}
use Rattle.bi_blob.specs.Tokens.{name_from}
use Rattle.bi_blob.specs.BlobFaults.{HasName}
use Rattle.bi_blob.proofs.Blobs.BytesBeforeZero.{before_zero, before_zero-cons, length_before_zero}
use Rattle.bi_fdt.specs.Growth.{HasBytesAt}
use Rattle.bi_fdt.specs.Strings.{end_of}

-- A name ends where each of its ends does, within the bytes, and is the bytes up to its end.

-- Bytes after the beginning of a name have its rest before their first zero byte.
before_zero-drop : (n : ℕ) (bytes : List ℕ) → n ≤ length (before_zero bytes) →
    n + length (before_zero (drop n bytes)) ≡ length (before_zero bytes)
before_zero-drop zero bytes within = omega arith
before_zero-drop (suc n) [] within = absurd (omega arith)
before_zero-drop (suc n) (byte ∷ rest) within = search (rules, before_zero, before_zero-cons, before_zero-drop n rest)

pub drop_again : {X : Type 0} (m n : ℕ) (xs : List X) → drop n (drop m xs) ≡ drop (m + n) xs
drop_again zero n xs = ap (λ k. drop k xs) (omega arith)
drop_again (suc m) n [] = drop-nil n ∙ sym (drop-nil (suc m + n))
drop_again (suc m) n (x ∷ xs) = drop_again m n xs ∙ ap (λ k. drop k (x ∷ xs)) (more m n) where
  more : (a b : ℕ) → suc (a + b) ≡ suc a + b
  more a b = omega arith

-- A name ends where each of its ends does.
pub later_end : (bytes : List ℕ) (at later : ℕ) → at ≤ later → later ≤ end_of bytes at → end_of bytes later ≡ end_of bytes at
later_end bytes at later ordered within =
    let n : ℕ = later - at in
    let rest : n + length (before_zero (drop n (drop at bytes)))
    ≡ length (before_zero (drop at bytes)) = before_zero-drop n (drop at bytes) (omega arith) in
    let same : length (before_zero (drop n (drop at bytes))) ≡ length (name_from bytes later) =
    ap (λ l. length (before_zero l)) (drop_again at n bytes ∙ ap (λ k. drop k bytes) (omega arith)) in
    omega arith

-- A name ends within the bytes.
pub name_end_within : (bytes : List ℕ) (at : ℕ) → at ≤ length bytes → end_of bytes at ≤ length bytes
name_end_within bytes at within = search (rules, length_before_zero, length-drop)

-- The bytes before the end are the name.
take_front : (bytes : List ℕ) → take (length (before_zero bytes)) bytes ≡ before_zero bytes
take_front [] = refl
take_front (byte ∷ rest) = search (rules, before_zero-cons, before_zero, take_front rest)

pub name_before_end : (bytes : List ℕ) (at end : ℕ) → end ≡ end_of bytes at → take (end - at) (drop at bytes) ≡ name_from bytes at
name_before_end bytes at end is = ap (λ n. take n (drop at bytes)) (omega arith) ∙ take_front (drop at bytes)

-- A name is the slice of its length where it begins.
pub name_there : (file name : List ℕ) (at : ℕ) → name ≡ name_from file at → HasBytesAt file at name
name_there file name at is =
    let long : length name ≡ length (name_from file at) = ap length is in
    ap (λ n. take n (drop at file)) (omega arith) ∙ name_before_end file at (at + length (name_from file at)) refl ∙ sym is

-- No name ends before an offset where the name has not ended.
pub end_not_before : (bytes : List ℕ) (at end : ℕ) → ¬ (HasName bytes at end) → end ≤ end_of bytes at
end_not_before bytes at end none = omega (arith, none)

-- One more end.
pub ends_more : (bytes ends more : List ℕ) (n end : ℕ) → length ends ≡ n
    → ((index : ℕ) (d : ℕ) → index < n → slice_index_or ends index d ≡ end_of bytes (64 * index))
    → end ≡ end_of bytes (64 * n) → more ≡ ends ++ end ∷ []
    → (index : ℕ) (d : ℕ) → index < n + 1 → slice_index_or more index d ≡ end_of bytes (64 * index)
ends_more bytes ends more n end long each is pushed index d within = search (rules, eq-or-lt_of_le, get_or-append_right, get_or_append_left)

-- A later end of the bytes before the first zero byte.
before_zero-later : (n : ℕ) (bytes : List ℕ) → n ≤ length (before_zero bytes) → before_zero (drop n bytes) ≡ drop n (before_zero bytes)
before_zero-later zero bytes within = refl
before_zero-later (suc n) [] within = refl
before_zero-later (suc n) (byte ∷ rest) within = search (rules, before_zero, before_zero-cons, before_zero-later n rest)

-- A later end of a name is the name there.
pub name_from-later : (bytes : List ℕ) (at n : ℕ) → n ≤ length (name_from bytes at) →
    name_from bytes (at + n) ≡ drop n (name_from bytes at)
name_from-later bytes at n within = sym (ap before_zero (drop_again at n bytes)) ∙ before_zero-later n (drop at bytes) within

-- A name is within the bytes.
pub name_within : (bytes : List ℕ) (at : ℕ) → length (name_from bytes at) ≤ length bytes - at
name_within bytes at = search (rules, length_before_zero, length-drop)
