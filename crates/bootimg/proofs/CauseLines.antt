use Rattle.std.proofs.Common.{◌≡◌, ◌++◌, ℕ, ◌+◌, ◌<◌, List, length, take, get_or, arith}
use Rattle.std.specs.List.{flat_map}
use Rattle.std.proofs.lemmas.Grind.{common_steps}

-- Proves that the lines of the causes, and those of the kinds of concerns, are written one after the other.

-- One more line after the lines of the first elements of a list.
pub one_more_line : {X : Type 0} (f : X → List ℕ) (xs : List X) (d : X) (i : ℕ) (first now next : List ℕ) → i < length xs →
    now ≡ first ++ flat_map f (take i xs) → next ≡ now ++ f (get_or xs i d) → next ≡ first ++ flat_map f (take (i + 1) xs)
one_more_line f xs d i first now next within before more = grind (arith, common_steps)
