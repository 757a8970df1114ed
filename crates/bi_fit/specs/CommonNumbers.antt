use Rattle.std.specs.Prelude.{ℕ, List, ◌++◌}
use Rattle.std.specs.List.{AllZip}
use Rattle.bi_blob.specs.Tree.{AreDistinct}
use Rattle.bi_fdt.specs.Numbers.{IsNumberOf}

-- Numbers of the names of two lists.

-- Other names have these numbers in a list of distinct names that begins with these names.
pub record HaveNumbersAfter (names others : List (List ℕ)) (numbers : List ℕ) : Type 0 where
  pub more : List (List ℕ)
  pub distinct : AreDistinct (names ++ more)
  pub numbered : AllZip (IsNumberOf (names ++ more)) others numbers
