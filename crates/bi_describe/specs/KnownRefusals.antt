use Rattle.std.specs.Prelude.{◌≡◌, ◌↔◌, ◌⊎◌, ℕ, List, []}
use Rattle.bi_base.specs.declared.fault.Error.{Error}
use Rattle.bi_base.specs.declared.fault.Error.TheVariants.{Refused, OutOfMemory}
use Rattle.bi_base.specs.declared.fault.Fault.{Fault}
use Rattle.bi_base.specs.Limits.{Limits, widest}
use Rattle.bi_base.specs.Reading.{too_large}
use Rattle.bi_fit.specs.KnownFiles.{plain_tree, shared_file, shared_region, shared_tree}
use Rattle.bi_legacy.specs.KnownFaults.{limited_to}
use Rattle.bi_legacy.specs.KnownImages.{kernel_file, kernel_image}
use Rattle.bi_norm.specs.KnownComparisons.{file_without_magic, no_magic, file_that_ends_early}
use Rattle.bi_norm.specs.Meaning.{Meaning, OfLegacy, OfFit}
use Rattle.bi_common.specs.declared.format.Format.{Format}
use Rattle.bi_common.specs.declared.format.Format.TheVariants.{Lines}
use Rattle.bi_describe.specs.declared.compare.CompareError.{CompareError}
use Rattle.bi_describe.specs.declared.compare.CompareError.TheVariants.{One, Other}
use Rattle.bi_describe.specs.Comparing.{IsReadingError, IsDescribingError}
use Rattle.bi_describe.specs.Describing.{CanBeDescribed, IsTooLongToDescribe}
use Rattle.bi_describe.specs.Describing.{describe_promise}

-- Small boot images that cannot be described or compared, by which a reader can judge the
-- definitions.

-- Three images with the same payload of 1,000 bytes.
abbrev pub three_payloads : Meaning
three_payloads = OfFit (shared_tree shared_region)

-- A kernel image, whose description has 192 bytes, and the smallest tree, whose description has 40.
abbrev pub longer_meaning : Meaning
longer_meaning = OfLegacy kernel_image

abbrev pub shorter_meaning : Meaning
shorter_meaning = OfFit (plain_tree [] [])

-- A description that is as long as the limit is within it, and the payloads count too.
pub record DescriptionBoundsAreKnown : Type 0 where
  pub as_long : CanBeDescribed Lines (limited_to 192) longer_meaning
  pub as_long_is_within : ¬ (IsTooLongToDescribe Lines (limited_to 192) longer_meaning)
  pub longer : ¬ (CanBeDescribed Lines (limited_to 191) longer_meaning)
  pub longer_is_over : IsTooLongToDescribe Lines (limited_to 191) longer_meaning
  pub payloads : ¬ (CanBeDescribed Lines (limited_to 2999) three_payloads)
  pub payloads_are_over : IsTooLongToDescribe Lines (limited_to 2999) three_payloads

-- Describing the file in this form fails with these errors, and with no others.
abbrev pub FailsToDescribe : Format → Limits → List ℕ → (Error → Type 0) → Type 0
FailsToDescribe format limits file IsOne =
    (error : Error) → (describe_promise format limits).has_error file error ↔ IsOne error

-- This fault, or that memory ran out.
abbrev pub IsTooLargeOrNoMemory : ℕ → Error → Type 0
IsTooLargeOrNoMemory most error = (error ≡ Refused (too_large most)) ⊎ (error ≡ OutOfMemory)

-- A file with a fault has this error alone, and any other may run out of memory. One whose
-- description or whose payloads are longer than the limit may also be refused for that. An error is
-- not changed.
pub record DescribeErrorsAreKnown : Type 0 where
  pub no_magic : (format : Format)
      → FailsToDescribe format widest file_without_magic (λ error. error ≡ Refused no_magic)
  pub as_long : FailsToDescribe Lines (limited_to 192) kernel_file (λ error. error ≡ OutOfMemory)
  pub longer : FailsToDescribe Lines (limited_to 191) kernel_file (IsTooLargeOrNoMemory 191)
  pub payloads : (format : Format)
      → FailsToDescribe format (limited_to 2999) (shared_file 0 1000) (IsTooLargeOrNoMemory 2999)
  pub is_same : (format : Format) (limits : Limits) (error : Error)
      → (describe_promise format limits).wraps error ≡ error

-- Describing two meanings within 88 bytes may fail with this error.
abbrev pub FailsDescribing : (one other : Meaning) → CompareError → Type 0
FailsDescribing one other error = IsDescribingError (limited_to 88) one other error

-- The error names the first of two meanings if that is too long to describe, and else the second.
pub record DescribingErrorsAreKnown : Type 0 where
  pub only_first : FailsDescribing longer_meaning shorter_meaning (One (too_large 88))
  pub only_second : FailsDescribing shorter_meaning longer_meaning (Other (too_large 88))
  pub not_first : (fault : Fault) → ¬ (FailsDescribing shorter_meaning longer_meaning (One fault))
  pub first_of_both : FailsDescribing longer_meaning longer_meaning (One (too_large 88))
  pub not_second_of_both :
      (fault : Fault) → ¬ (FailsDescribing longer_meaning longer_meaning (Other fault))
  pub neither :
      (error : CompareError) → ¬ (FailsDescribing shorter_meaning shorter_meaning error)

-- Reading two files may fail with this error.
abbrev pub FailsReading : (one other : List ℕ) → CompareError → Type 0
FailsReading one other error = IsReadingError widest one other error

-- The error names the first of two files if that means nothing, and else the second.
pub record ReadingErrorsAreKnown : Type 0 where
  pub only_first : FailsReading file_without_magic kernel_file (One no_magic)
  pub only_second : FailsReading kernel_file file_without_magic (Other no_magic)
  pub not_first : (fault : Fault) → ¬ (FailsReading kernel_file file_without_magic (One fault))
  pub first_of_both : FailsReading file_without_magic file_that_ends_early (One no_magic)
  pub not_second_of_both :
      (fault : Fault) → ¬ (FailsReading file_without_magic file_that_ends_early (Other fault))
