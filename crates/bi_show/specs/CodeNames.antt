use Rattle.std.specs.Prelude.{ℕ, List}
use Rattle.std.specs.Borrow.{Bor}
use Rattle.bi_legacy.specs.Codes.{CodeName}

-- The code and the name of an entry, as the code has them.

abbrev pub code_of_entry : ℕ × Bor (List ℕ) → CodeName
code_of_entry entry = record { code = entry.0; name = entry.1.now }
