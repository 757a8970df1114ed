use Rattle.std.specs.Prelude.{ℕ, ◌≡◌, ◌+◌, ◌<◌, ◌≤◌, List, ◌∷◌, ◌++◌, length, map}
use Rattle.std.specs.List.{concat, sum}
use Rattle.bi_base.specs.Errors.{FailsWith}
use Rattle.bi_base.specs.declared.fault.Fault.{Fault}
use Rattle.bi_base.specs.declared.fault.Cause.TheVariants.{BadPart}
use Rattle.bi_base.specs.declared.fault.Error.{Error}

-- Cutting an input into pieces of given lengths (profile of this project).

-- The pieces have these lengths, and together they are the whole input.
pub record IsCut (input lengths : List ℕ) (pieces : List (List ℕ)) : Type 0 where
  pub have_lengths : map length pieces ≡ lengths
  pub are_whole : concat pieces ≡ input

-- The fault of an input that cannot be cut into pieces of these lengths: at the beginning of the
-- first piece that does not fit, or where the pieces end before the input does.
pub data IsCutFault (input lengths : List ℕ) (fault : Fault) : Type 0 where
  TooLong : (before : List ℕ) (piece : ℕ) (later : List ℕ) → lengths ≡ before ++ piece ∷ later
      → sum before ≤ length input → length input < sum before + piece
      → fault ≡ record { cause = BadPart; offset = sum before } → IsCutFault input lengths fault
  TooShort : sum lengths < length input
      → fault ≡ record { cause = BadPart; offset = sum lengths } → IsCutFault input lengths fault

-- The error that cutting an input can have. Memory is needed only for an input that can be cut.
abbrev pub IsCutError : List ℕ → List ℕ → Error → Type 0
IsCutError input lengths = FailsWith (IsCutFault input lengths) (sum lengths ≡ length input)
