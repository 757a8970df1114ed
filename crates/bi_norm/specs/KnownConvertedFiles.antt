use Rattle.std.specs.Prelude.{◌≡◌, ◌↔◌, ◌⊎◌, ℕ, List, [], ◌∷◌, length, codes}
use Rattle.bi_base.specs.declared.fault.Cause.TheVariants.{EmptyPart}
use Rattle.bi_base.specs.declared.fault.Error.{Error}
use Rattle.bi_base.specs.declared.fault.Error.TheVariants.{Refused, OutOfMemory}
use Rattle.bi_base.specs.declared.fault.Fault.{Fault}
use Rattle.bi_base.specs.Limits.{Limits, widest}
use Rattle.bi_base.specs.Reading.{too_large}
use Rattle.bi_fit.specs.KnownBuilds.{known_text}
use Rattle.bi_legacy.specs.KnownFaults.{limited_to}
use Rattle.bi_legacy.specs.Meaning.{LegacyImage}
use Rattle.bi_legacy.specs.Text.{legacy_text}
use Rattle.bi_norm.specs.Converting.{IsConvertedFile, IsConvertError, IsConvertible}
use Rattle.bi_norm.specs.KnownComparisons.{file_without_magic, no_magic}
use Rattle.bi_norm.specs.KnownConversions.{known_image}

-- Small files of legacy images with the files that they are converted to, or with their errors, by
-- which a reader can judge the definitions.

-- A multi-file image of a kernel and a ramdisk, and one without parts.
abbrev pub multi_of_two : LegacyImage
multi_of_two = known_image 4 0 (codes "hello" ∷ codes "abc" ∷ [])

abbrev pub multi_of_none : LegacyImage
multi_of_none = known_image 4 0 []

-- The first is converted to a text of 824 bytes, and to no other. The second is not converted.
pub record ConvertedFilesAreKnown : Type 0 where
  pub two : (text : List ℕ)
      → IsConvertedFile widest (legacy_text multi_of_two) text ↔ (text ≡ known_text)
  pub is_length : length known_text ≡ 824
  pub can : IsConvertible widest (legacy_text multi_of_two)
  pub none : (text : List ℕ) → ¬ (IsConvertedFile widest (legacy_text multi_of_none) text)
  pub cannot : ¬ (IsConvertible widest (legacy_text multi_of_none))

-- Converting the file fails with these errors, and with no others.
abbrev pub FailsConverting : Limits → List ℕ → (Error → Type 0) → Type 0
FailsConverting limits file IsOne = (error : Error) → IsConvertError limits file error ↔ IsOne error

-- The fault of an image without parts.
abbrev pub no_part_fault : Fault
no_part_fault = record { cause = EmptyPart; offset = 64 }

-- Memory never runs out for a file or an image that is refused. A text that is as long as the limit
-- is within it.
pub record ConvertErrorsAreKnown : Type 0 where
  pub no_magic : FailsConverting widest file_without_magic (λ error. error ≡ Refused no_magic)
  pub no_parts :
      FailsConverting widest (legacy_text multi_of_none) (λ error. error ≡ Refused no_part_fault)
  pub too_long :
      FailsConverting (limited_to 823) (legacy_text multi_of_two)
      (λ error. (error ≡ Refused (too_large 823)) ⊎ (error ≡ OutOfMemory))
  pub within :
      FailsConverting (limited_to 824) (legacy_text multi_of_two) (λ error. error ≡ OutOfMemory)
