use Rattle.std.proofs.Common.{◌≡◌, ℕ, List, Result, Ok, Err, IfOk, OnOk, IfErr, inl, inr, rules}
use Rattle.bi_base.specs.Commands.{Appended, AppendFailed, WasRefused, SinkFailed}
use Rattle.bi_base.specs.declared.fault.Error.{Error}
use Rattle.bi_base.specs.declared.fault.Error.TheVariants.{Refused, OutOfMemory, ReadFailed, WriteFailed}
use Rattle.bi_base.specs.Limits.{Limits}
use Rattle.bi_norm.specs.declared.image.BootImage.{BootImage}
use Rattle.bi_norm.specs.Reading.{IsBootImageReadError, meaning_of, IsReadBootImage}
use Rattle.bi_norm.proofs.NormalForms.{needs_memory}
use Rattle.bi_common.specs.declared.format.Format.{Format}
use Rattle.bi_describe.specs.Describing.{CanBeDescribed, IsDescription, IsDescribeError, IsImageError, description_text}
use Rattle.bi_describe.specs.DescribedImages.{IsDescriptionOf}
use Rattle.bi_norm.proofs.Comparisons.{opened_means}

-- The description of what was read from a file is that of the file.

pub description_of_file : (format : Format) (limits : Limits) (file : List ℕ) (image : BootImage) (text : List ℕ) →
    IsReadBootImage limits file image
    → IsDescriptionOf format limits (meaning_of image) text → IsDescription format limits file text
description_of_file format limits file image text opened is = search (rules, opened_means)

-- The same of a call that returns the description.
pub described_of_result : {T : Type 0} (bytes_of : T → List ℕ) (format : Format) (limits : Limits) (file : List ℕ) (image : BootImage)
    (result : Result T Error)
    → IsReadBootImage limits file image → OnOk result (CanBeDescribed format limits (meaning_of image))
    → IfOk result (λ text. bytes_of text ≡ description_text format (meaning_of image)) →
    IfOk result (λ text. IsDescription format limits file (bytes_of text))
described_of_result bytes_of format limits file image (Ok text) opened within is =
    description_of_file format limits file image (bytes_of text) opened (record { within = within; is_text = is })
described_of_result bytes_of format limits file image (Err error) opened within is = tt

-- An error of describing what was read from a file is one of describing the file.
pub error_of_file : (format : Format) (limits : Limits) (file : List ℕ) (image : BootImage) (error : Error) →
    IsReadBootImage limits file image
    → IsImageError format limits (meaning_of image) error → IsDescribeError format limits file error
error_of_file format limits file image (Refused fault) opened is =
    inr (record { meaning = meaning_of image; means = (opened_means limits file image opened).means; is_too_long = is.0 }, is.1)
error_of_file format limits file image OutOfMemory opened is =
    needs_memory limits file (meaning_of image) (opened_means limits file image opened).means
error_of_file format limits file image ReadFailed opened is = is
error_of_file format limits file image WriteFailed opened is = is

pub failed_of_result : {T : Type 0} (format : Format) (limits : Limits) (file : List ℕ) (image : BootImage) (result : Result T Error) →
    IsReadBootImage limits file image
    → IfErr result (IsImageError format limits (meaning_of image)) → IfErr result (IsDescribeError format limits file)
failed_of_result format limits file image (Ok value) opened is = tt
failed_of_result format limits file image (Err error) opened is = error_of_file format limits file image error opened is

-- An error of reading a file is one of describing it.
pub describe_error_of_reading : (format : Format) (limits : Limits) (file : List ℕ) (error : Error) →
    IsBootImageReadError limits file error →
    IsDescribeError format limits file error
describe_error_of_reading format limits file (Refused fault) is = inl is
describe_error_of_reading format limits file OutOfMemory is = is
describe_error_of_reading format limits file ReadFailed is = is
describe_error_of_reading format limits file WriteFailed is = is

-- The same of a call that appends the description.
pub appended_of_file : {S : Type 0} (appends : S → List ℕ → S → Type 0) (format : Format) (limits : Limits) (file : List ℕ)
    (image : BootImage) (old new : S)
    → IsReadBootImage limits file image → Appended appends (IsDescriptionOf format limits (meaning_of image)) old new
    → Appended appends (IsDescription format limits file) old new
appended_of_file appends format limits file image old new opened is =
    record { text = is.text; is_text = description_of_file format limits file image is.text opened is.is_text; appended = is.appended }

pub describe_failed_of_file : {S : Type 0} (fails : S → List ℕ → S → Error → Type 0) (format : Format) (limits : Limits)
    (file : List ℕ) (image : BootImage) (old new : S) (error : Error)
    → IsReadBootImage limits file image →
    AppendFailed fails (IsDescriptionOf format limits (meaning_of image)) (IsImageError format limits (meaning_of image)) old new error
    → AppendFailed fails (IsDescription format limits file) (IsDescribeError format limits file) old new error
describe_failed_of_file fails format limits file image old new error opened (WasRefused is kept) = WasRefused
    (error_of_file format limits file image error opened is) kept
describe_failed_of_file fails format limits file image old new error opened (SinkFailed text cause is stops wrapped) =
    SinkFailed text cause (description_of_file format limits file image text opened is) stops wrapped
