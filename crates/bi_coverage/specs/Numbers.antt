use Rattle.std.specs.Prelude.{ℕ, ◌+◌, max, List, [], ◌∷◌}

-- Numbers.

-- The greatest of these numbers, or 0 if there is none.
abbrev pub greatest : List ℕ → ℕ
greatest [] = 0
greatest (number ∷ later) = max number (greatest later)

-- The sum of these numbers.
abbrev pub sum_of : List ℕ → ℕ
sum_of [] = 0
sum_of (number ∷ later) = number + sum_of later
