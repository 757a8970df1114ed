use Rattle.std.proofs.Common.{◌≡◌, ℕ, List, [], ◌∷◌, ◌++◌, append-nil, ap, sym}
use Rattle.std.specs.List.{join_with_byte, flat_map}

-- Words with a byte between each two.

-- Words after a first one, with a byte before each.
pub joined_after : (byte : ℕ) (first : List ℕ) (words : List (List ℕ)) →
    join_with_byte byte (first ∷ words) ≡ first ++ flat_map (λ word. byte ∷ word) words
joined_after byte first [] = sym (append-nil first)
joined_after byte first (word ∷ words) = ap (λ later. first ++ (byte ∷ later)) (joined_after byte word words)
