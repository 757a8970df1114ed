use Rattle.std.specs.Prelude.{ℕ, Bool, true, false, List, [], ◌∷◌}
use Rattle.bi_base.specs.declared.fault.Cause.TheVariants.{BadMagic, Truncated}
use Rattle.bi_base.specs.declared.fault.Error.TheVariants.{Refused}
use Rattle.bi_base.specs.declared.fault.Fault.{Fault}
use Rattle.bi_base.specs.Limits.{widest}
use Rattle.bi_blob.specs.KnownBlobs.{with_cell}
use Rattle.bi_blob.specs.KnownTexts.{smallest_text}
use Rattle.bi_legacy.specs.KnownFiles.{kernel_file_with_rest}
use Rattle.bi_legacy.specs.KnownImages.{kernel_file, multi_file}
use Rattle.bi_norm.specs.Comparing.{AreCompared, IsCompareError}

-- Small files that are compared, by which a reader can judge the definitions.

-- Whether two files mean the same is this, and nothing else.
pub record IsOnlyComparison (one other : List ℕ) (same different : Bool) : Type 0 where
  pub are_compared : AreCompared widest one other same
  pub no_other : ¬ (AreCompared widest one other different)

-- Bytes after an image and after its name change nothing, and another image is another one.
pub record ComparedFilesAreKnown : Type 0 where
  pub same : IsOnlyComparison kernel_file_with_rest kernel_file true false
  pub other_image : IsOnlyComparison kernel_file multi_file false true

-- A file without a magic number, and one whose `totalsize` is one byte after its end, with the
-- fault of each.
abbrev pub file_without_magic : List ℕ
file_without_magic = 1 ∷ 2 ∷ 3 ∷ 4 ∷ []

abbrev pub no_magic : Fault
no_magic = record { cause = BadMagic; offset = 0 }

abbrev pub file_that_ends_early : List ℕ
file_that_ends_early = with_cell smallest_text 4 89

abbrev pub ends_early : Fault
ends_early = record { cause = Truncated; offset = 4 }

-- Comparing two files may fail with this fault.
abbrev pub FailsComparing : (one other : List ℕ) → Fault → Type 0
FailsComparing one other fault = IsCompareError widest one other (Refused fault)

-- The fault of the first file counts, if it has one, and else that of the second.
pub record CompareErrorsAreKnown : Type 0 where
  pub only_first : FailsComparing file_without_magic kernel_file no_magic
  pub only_second : FailsComparing kernel_file file_without_magic no_magic
  pub first_of_both : FailsComparing file_without_magic file_that_ends_early no_magic
  pub not_second_of_both :
      ¬ (FailsComparing file_without_magic file_that_ends_early ends_early)
  pub first_of_exchanged : FailsComparing file_that_ends_early file_without_magic ends_early
  pub not_second_of_exchanged :
      ¬ (FailsComparing file_that_ends_early file_without_magic no_magic)
  pub neither : (fault : Fault) → ¬ (FailsComparing kernel_file multi_file fault)
