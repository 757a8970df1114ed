use Rattle.std.specs.Prelude.{ℕ, List, [], ◌∷◌, ◌++◌}
use Rattle.bi_base.specs.Cells.{cell}
use Rattle.bi_lay.specs.declared.items.Value.{Value}
use Rattle.bi_lay.specs.declared.items.Value.TheVariants.{Slice, Cell, Text}

-- The values of properties.

-- The bytes of a value.
abbrev pub value_bytes : Value → List ℕ
value_bytes (Slice bytes) = bytes.now
value_bytes (Cell number) = cell number
value_bytes (Text bytes) = bytes.now ++ 0 ∷ []
