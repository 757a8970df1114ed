use Rattle.std.proofs.Common.{ℕ, List, Result, Ok, Err, IfOk, IfErr, inl, inr}
use Rattle.bi_base.specs.Commands.{Appended, AppendFailed, WasRefused, SinkFailed}
use Rattle.bi_base.specs.declared.fault.Error.{Error}
use Rattle.bi_base.specs.declared.fault.Error.TheVariants.{Refused, OutOfMemory, ReadFailed, WriteFailed}
use Rattle.bi_base.specs.Limits.{Limits}
use Rattle.bi_norm.specs.declared.image.BootImage.{BootImage}
use Rattle.bi_norm.specs.Reading.{IsBootImageReadError, meaning_of, IsReadBootImage}
use Rattle.bi_norm.proofs.Comparisons.{opened_means}
use Rattle.bi_norm.proofs.NormalForms.{needs_memory}
use Rattle.bi_common.specs.declared.format.Format.{Format}
use Rattle.bi_describe.specs.DeepDescribing.{IsDeepDescribeError, IsDeepDescription, IsDeepImageError, IsDeepTextOf}

-- The deep description of what was read from a file is that of the file.

pub deep_of_file : (format : Format) (limits : Limits) (file : List ℕ) (image : BootImage) (text : List ℕ) →
    IsReadBootImage limits file image → IsDeepTextOf format limits (meaning_of image) text → IsDeepDescription format limits file text
deep_of_file format limits file image text opened is = record {
  deep = record { meaning = meaning_of image; insides = is.insides };
  means = record { means = opened_means limits file image opened; are_inside = is.are_inside };
  within = is.within;
  is_text = is.is_text;
}

-- The same of a call that returns the description.
pub deep_of_result : {T : Type 0} (bytes_of : T → List ℕ) (format : Format) (limits : Limits) (file : List ℕ) (image : BootImage)
    (result : Result T Error) → IsReadBootImage limits file image →
    IfOk result (λ text. IsDeepTextOf format limits (meaning_of image) (bytes_of text)) →
    IfOk result (λ text. IsDeepDescription format limits file (bytes_of text))
deep_of_result bytes_of format limits file image (Ok text) opened is = deep_of_file format limits file image (bytes_of text) opened is
deep_of_result bytes_of format limits file image (Err error) opened is = tt

-- An error of describing what was read from a file is one of describing the file.
pub deep_error_of_file : (format : Format) (limits : Limits) (file : List ℕ) (image : BootImage) (error : Error) →
    IsReadBootImage limits file image → IsDeepImageError format limits (meaning_of image) error →
    IsDeepDescribeError format limits file error
deep_error_of_file format limits file image (Refused fault) opened is =
    inr (record { meaning = meaning_of image; means = (opened_means limits file image opened).means; is_too_long = is.0 }, is.1)
deep_error_of_file format limits file image OutOfMemory opened is =
    needs_memory limits file (meaning_of image) (opened_means limits file image opened).means
deep_error_of_file format limits file image ReadFailed opened is = is
deep_error_of_file format limits file image WriteFailed opened is = is

pub deep_failed_of_result : {T : Type 0} (format : Format) (limits : Limits) (file : List ℕ) (image : BootImage)
    (result : Result T Error) → IsReadBootImage limits file image → IfErr result (IsDeepImageError format limits (meaning_of image)) →
    IfErr result (IsDeepDescribeError format limits file)
deep_failed_of_result format limits file image (Ok value) opened is = tt
deep_failed_of_result format limits file image (Err error) opened is = deep_error_of_file format limits file image error opened is

-- An error of reading a file is one of describing it.
pub deep_error_of_reading : (format : Format) (limits : Limits) (file : List ℕ) (error : Error) →
    IsBootImageReadError limits file error → IsDeepDescribeError format limits file error
deep_error_of_reading format limits file (Refused fault) is = inl is
deep_error_of_reading format limits file OutOfMemory is = is
deep_error_of_reading format limits file ReadFailed is = is
deep_error_of_reading format limits file WriteFailed is = is

-- The same of a call that appends the description.
pub deep_appended_of_file : {S : Type 0} (appends : S → List ℕ → S → Type 0) (format : Format) (limits : Limits) (file : List ℕ)
    (image : BootImage) (old new : S) → IsReadBootImage limits file image →
    Appended appends (IsDeepTextOf format limits (meaning_of image)) old new →
    Appended appends (IsDeepDescription format limits file) old new
deep_appended_of_file appends format limits file image old new opened is =
    record { text = is.text; is_text = deep_of_file format limits file image is.text opened is.is_text; appended = is.appended }

pub deep_failed_of_file : {S : Type 0} (fails : S → List ℕ → S → Error → Type 0) (format : Format) (limits : Limits)
    (file : List ℕ) (image : BootImage) (old new : S) (error : Error) → IsReadBootImage limits file image →
    AppendFailed fails (IsDeepTextOf format limits (meaning_of image)) (IsDeepImageError format limits (meaning_of image)) old new error →
    AppendFailed fails (IsDeepDescription format limits file) (IsDeepDescribeError format limits file) old new error
deep_failed_of_file fails format limits file image old new error opened (WasRefused is kept) = WasRefused
    (deep_error_of_file format limits file image error opened is) kept
deep_failed_of_file fails format limits file image old new error opened (SinkFailed text cause is stops wrapped) =
    SinkFailed text cause (deep_of_file format limits file image text opened is) stops wrapped
