use Rattle.std.proofs.Common.{◌≡◌, ℕ, zero, suc, ◌+◌, List, [], ◌∷◌, ◌++◌, ap, arith, rules}
use Rattle.std.specs.List.{AllZip, range_with_len}
use Rattle.std.proofs.lemmas.Slice.Zip.{all_zipped_more}

-- What holds at the first offsets holds at one more.

-- Numbers in a row, and the next one.
range_with_len-more : (begin count : ℕ) → range_with_len begin (count + 1) ≡ range_with_len begin count ++ (begin + count) ∷ []
range_with_len-more begin zero = ap (λ (n : ℕ). n ∷ []) (let same : begin ≡ begin + zero = omega arith in same)
range_with_len-more begin (suc count) = search (rules, range_with_len-more (begin + 1) count)

-- What holds at the next offset, too.
pub next_offset : {A : Type 0} (R : ℕ → A → Type 0) (offset : ℕ) (items : List A) (item : A) →
    AllZip R (range_with_len 0 offset) items → R offset item → AllZip R (range_with_len 0 (offset + 1)) (items ++ item ∷ [])
next_offset R offset items item all here = search (rules, range_with_len-more, all_zipped_more)
