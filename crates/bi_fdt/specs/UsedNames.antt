use Rattle.std.specs.Prelude.{ℕ, List}

-- The names of the properties of a blob in the order of their first use, while the blob is read.

-- A strings block, and the names in it that were used.
pub record UsedNames : Type 0 where
  pub strings : List ℕ
  pub used : List (List ℕ)
