use Rattle.std.proofs.Common.{◌≡◌, ◌≢◌, ℕ, true, false, List, bytes_eq, sym, ◌∙◌, true≢false}
use Rattle.std.proofs.lemmas.Slice.Eq.{bytes_eq-Decides}

-- The test of two lists of bytes for equality passes if and only if they are the same.

-- Lists that the test finds equal are the same.
pub same_bytes : (a b : List ℕ) → bytes_eq a b ≡ true → a ≡ b
same_bytes a b is = (bytes_eq-Decides a b).0 is

-- Lists that the test finds different are not the same.
pub other_bytes : (a b : List ℕ) → bytes_eq a b ≡ false → a ≢ b
other_bytes a b is same = true≢false (sym ((bytes_eq-Decides a b).1 same) ∙ is)
