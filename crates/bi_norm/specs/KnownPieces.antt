use Rattle.std.specs.Prelude.{ℕ, ◌≡◌, ◌↔◌, List, [], ◌∷◌, codes}
use Rattle.bi_base.specs.declared.fault.Cause.TheVariants.{BadPart}
use Rattle.bi_base.specs.declared.fault.Error.{Error}
use Rattle.bi_base.specs.declared.fault.Error.TheVariants.{Refused, OutOfMemory}
use Rattle.bi_norm.specs.Cutting.{IsCut, IsCutFault, IsCutError}

-- Small inputs with their pieces, or with the fault of those that cannot be cut, by which a reader
-- can judge the definitions.

-- Inputs and their pieces. A piece may be empty, and an input without bytes has no pieces.
pub record CutsAreKnown : Type 0 where
  pub two : IsCut (codes "helloabc") (5 ∷ 3 ∷ []) (codes "hello" ∷ codes "abc" ∷ [])
  pub empty : IsCut (codes "abc") (0 ∷ 3 ∷ 0 ∷ []) ([] ∷ codes "abc" ∷ [] ∷ [])
  pub none : IsCut [] [] []

-- The input cannot be cut into pieces of these lengths: BadPart at this offset.
abbrev pub HasCutFault : List ℕ → List ℕ → (offset : ℕ) → Type 0
HasCutFault input lengths offset =
    IsCutFault input lengths (record { cause = BadPart; offset = offset })

-- A piece that does not fit has its fault at its beginning, and bytes that are left have it where
-- the pieces end.
pub record CutFaultsAreKnown : Type 0 where
  pub first : HasCutFault (codes "abc") (4 ∷ 1 ∷ []) 0
  pub second : HasCutFault (codes "helloabc") (5 ∷ 4 ∷ []) 5
  pub at_end : HasCutFault (codes "helloabc") (8 ∷ 0 ∷ 1 ∷ 0 ∷ []) 8
  pub left : HasCutFault (codes "helloabc") (5 ∷ 2 ∷ []) 7
  pub no_pieces : HasCutFault (codes "x") [] 0

-- Cutting the input into pieces of these lengths fails with these errors, and with no others.
abbrev pub FailsCutting : List ℕ → List ℕ → (Error → Type 0) → Type 0
FailsCutting input lengths IsOne = (error : Error) → IsCutError input lengths error ↔ IsOne error

-- Memory never runs out for an input that cannot be cut.
pub record CutErrorsAreKnown : Type 0 where
  pub cut : FailsCutting (codes "helloabc") (5 ∷ 3 ∷ []) (λ error. error ≡ OutOfMemory)
  pub left :
      FailsCutting (codes "helloabc") (5 ∷ [])
      (λ error. error ≡ Refused (record { cause = BadPart; offset = 5 }))
