use Rattle.std.specs.Prelude.{◌≡◌, ℕ, Bool, true, false, List, [], ◌∷◌}
use Rattle.bi_base.specs.declared.fault.Error.TheVariants.{Refused, OutOfMemory as NoMemory}
use Rattle.bi_base.specs.Limits.{Limits}
use Rattle.bi_common.specs.declared.format.Format.{Format}
use Rattle.bi_describe.specs.Comparing.{IsComparison, IsComparisonError, IsReadingError}
use Rattle.bi_describe.specs.ComparingWithout.{AreComparedWithout, IgnoringOptionsModel}
use Rattle.bi_describe.specs.ComparingWithout.{IsIgnoringError}
use Rattle.bi_describe.specs.DeepComparing.{AreComparedDeepWithout, IsDeepComparison}
use Rattle.bi_describe.specs.DeepComparing.{IsDeepComparisonError, IsDeepIgnoringError}
use Rattle.bi_describe.specs.Ignoring.{Ignored}
use Rattle.bi_describe.specs.declared.compare.CompareError.{CompareError}
use Rattle.bi_describe.specs.declared.compare.CompareError.TheVariants.{One, Other, OutOfMemory}
use Rattle.bi_norm.specs.Comparing.{AreCompared}
use Rattle.bootimg.specs.declared.command_line.source.ComparePlan.{ComparePlan}
use Rattle.bootimg.specs.declared.command_line.source.ImageSource.{ImageSource}
use Rattle.bootimg.specs.declared.command_line.source.ImageSource.TheVariants.{Standard}
use Rattle.bootimg.specs.declared.failure.Failure.{Failure}
use Rattle.bootimg.specs.declared.failure.Failure.TheVariants.{Call}

-- What the command `compare` makes of two files (profile of this project).

-- What is written of two files once something is left out of both, and whether they are the same
-- then: with what is inside their payloads if the flag is set.
abbrev pub IsOutputWithout : (deep : Bool) → IgnoringOptionsModel → Limits → (one other : List ℕ)
    → (same : Bool) → (text : List ℕ) → Type 0
IsOutputWithout false options limits = AreComparedWithout options limits
IsOutputWithout true options limits = AreComparedDeepWithout options limits

-- Why they are not compared then.
abbrev pub IsFailureWithout : (deep : Bool) → Limits → (one other : List ℕ) → CompareError
    → Type 0
IsFailureWithout false limits = IsIgnoringError limits
IsFailureWithout true limits = IsDeepIgnoringError limits

-- What `compare` writes for two files, in a form, and whether they mean the same. With `--quiet` it
-- writes nothing, in any form. With `--ignore` there are words, which leave something out of both.
-- With `--deep` what is inside their payloads is compared, too.
abbrev pub IsCompareOutput : List Ignored → (quiet deep : Bool) → Format → Limits
    → (one other : List ℕ) → (same : Bool) → (text : List ℕ) → Type 0
IsCompareOutput [] true deep format limits one other same text =
    AreCompared limits one other same × (text ≡ [])
IsCompareOutput [] false false format limits one other same text =
    IsComparison format limits one other same text
IsCompareOutput [] false true format limits one other same text =
    IsDeepComparison format limits one other same text
IsCompareOutput (word ∷ words) quiet deep format limits one other same text =
    IsOutputWithout deep (record { words = word ∷ words; quiet = quiet; format = format })
    limits one other same text

-- Why `compare` fails for two files. With `--quiet` they need not be described, unless something is
-- left out. With `--deep` it is their deep descriptions that may be too long.
abbrev pub IsCompareFailure : List Ignored → (quiet deep : Bool) → Limits → (one other : List ℕ)
    → CompareError → Type 0
IsCompareFailure [] true deep limits one other error = IsReadingError limits one other error
IsCompareFailure [] false false limits one other error = IsComparisonError limits one other error
IsCompareFailure [] false true limits one other error =
    IsDeepComparisonError limits one other error
IsCompareFailure (word ∷ words) quiet deep limits one other error =
    IsFailureWithout deep limits one other error

-- The failure for an error of comparing.
abbrev pub failure_of_comparing : CompareError → Failure
failure_of_comparing (One fault) = Call (Refused fault)
failure_of_comparing (Other fault) = Call (Refused fault)
failure_of_comparing OutOfMemory = Call NoMemory

-- The image that an error of comparing is about.
abbrev pub refused_source : ComparePlan → CompareError → ImageSource
refused_source plan (One fault) = plan.one
refused_source plan (Other fault) = plan.other
refused_source plan OutOfMemory = Standard
