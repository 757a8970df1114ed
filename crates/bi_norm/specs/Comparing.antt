use Rattle.std.specs.Prelude.{ℕ, ◌≡◌, ◌↔◌, ◌⊎◌, Bool, IsTrue, List}
use Rattle.bi_base.specs.Errors.{FailsWith}
use Rattle.bi_base.specs.declared.fault.Error.{Error}
use Rattle.bi_base.specs.declared.fault.Error.TheVariants.{Refused}
use Rattle.bi_base.specs.Limits.{Limits}
use Rattle.bi_norm.specs.Meaning.{Meaning, Means}
use Rattle.bi_norm.specs.Reading.{IsBootImageReadError, NeedsMemory}

-- Comparing what two files mean (profile of this project).

-- What a file means, and that it means nothing else.
pub record MeansOnly (limits : Limits) (file : List ℕ) (meaning : Meaning) : Type 0 where
  pub means : Means limits file meaning
  pub only : (other : Meaning) → Means limits file other → other ≡ meaning

-- Each of two files means something, and the result is whether they mean the same.
pub record AreCompared (limits : Limits) (one other : List ℕ) (same : Bool) : Type 0 where
  pub meaning : Meaning
  pub other_meaning : Meaning
  pub means : MeansOnly limits one meaning
  pub other_means : MeansOnly limits other other_meaning
  pub is_same : IsTrue same ↔ (meaning ≡ other_meaning)

-- The first of two files means something, and reading the second one fails with this error.
pub record IsErrorOfSecond (limits : Limits) (one other : List ℕ) (error : Error) : Type 0 where
  pub meaning : Meaning
  pub means : Means limits one meaning
  pub has_error : IsBootImageReadError limits other error

-- The error that comparing two files can have: one of reading the first, or else one of reading the
-- second. Memory never runs out if the first file fails a check that needs none.
abbrev pub IsCompareError : Limits → List ℕ → List ℕ → Error → Type 0
IsCompareError limits one other =
    FailsWith (λ fault.
    IsBootImageReadError limits one (Refused fault)
    ⊎ IsErrorOfSecond limits one other (Refused fault))
    (NeedsMemory limits one)
