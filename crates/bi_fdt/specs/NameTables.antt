use Rattle.std.specs.Prelude.{◌≡◌, ◌⊎◌, ℕ, List, [], ◌∷◌, ◌++◌, map}
use Rattle.bi_fdt.specs.declared.name_table.NameTable.{NameTable}
use Rattle.bi_fdt.specs.NameTails.{AreHeads}
use Rattle.bi_fdt.specs.Numbers.{BeginsWith}

-- Tables of names, each once, by their heads and the numbers of their tails.

-- The names of a table.
abbrev pub names_in_table : NameTable → List (List ℕ)
names_in_table table = map (λ name. name.now) table.names.items

-- The heads and the tails of a table are those of its names, which are distinct.
abbrev pub IsNameTable : NameTable → Type 0
IsNameTable table = AreHeads table.tails table.heads (names_in_table table)

-- The same names and maybe more: names and tails keep their numbers.
pub record HasMoreNames (old new : NameTable) : Type 0 where
  pub is_table : IsNameTable new
  pub names : BeginsWith (names_in_table new) (names_in_table old)
  pub tails : BeginsWith new.tails old.tails

-- The same names, or these with one more at the end.
abbrev pub HasAtMostMore : List (List ℕ) → List (List ℕ) → List ℕ → Type 0
HasAtMostMore old new name = (new ≡ old) ⊎ (new ≡ old ++ name ∷ [])
