use Rattle.std.specs.Prelude.{◌≡◌, ◌≢◌, ℕ, List, [], ◌∷◌, ◌++◌, Option, Some, None}
use Rattle.std.specs.List.{AllByRecursion}

-- A text that is cut at the first of some bytes.

-- A byte and what is after it, or nothing.
abbrev pub from_byte : (byte : ℕ) → (after : Option (List ℕ)) → List ℕ
from_byte byte None = []
from_byte byte (Some after) = byte ∷ after

-- None of these bytes is this one.
abbrev pub LacksByte : (byte : ℕ) → List ℕ → Type 0
LacksByte byte bytes = AllByRecursion (λ other. other ≢ byte) bytes

-- The text is cut at its first byte of this kind, if there is one.
pub record IsCutAt (byte : ℕ) (text before : List ℕ) (after : Option (List ℕ)) : Type 0 where
  pub is : text ≡ before ++ from_byte byte after
  pub first : LacksByte byte before
