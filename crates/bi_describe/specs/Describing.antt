use Rattle.std.specs.Prelude.{ℕ, ◌<◌, ◌≤◌, ◌≡◌, ◌⊎◌, List, length}
use Rattle.bi_base.specs.Errors.{IsFaultOrNoMemory}
use Rattle.bi_base.specs.Commands.{CommandPromise, PromiseLaws, unit_promise, unit_laws}
use Rattle.bi_base.specs.declared.fault.Error.{Error}
use Rattle.bi_base.specs.Limits.{Limits}
use Rattle.bi_base.specs.Reading.{too_large}
use Rattle.bi_norm.specs.Comparing.{MeansOnly}
use Rattle.bi_norm.specs.Meaning.{Meaning, Means}
use Rattle.bi_norm.specs.Reading.{IsReadErrorOrTooLarge}
use Rattle.bi_common.specs.declared.format.Format.{Format}
use Rattle.bi_common.specs.declared.format.Format.TheVariants.{Lines, Json}
use Rattle.bi_common.specs.PayloadBounds.{IsOverPayloadBound}
use Rattle.bi_describe.specs.DescriptionJson.{description_json}
use Rattle.bi_describe.specs.Descriptions.{description}

-- Describing a boot image (profile of this project).

-- The description of a meaning, in a form.
abbrev pub description_text : Format → Meaning → List ℕ
description_text Lines meaning = description meaning
description_text Json meaning = description_json meaning

-- A meaning can be described in a form within limits: its payloads are within the payload bound,
-- and its description in that form is no longer than the limit.
pub record CanBeDescribed (format : Format) (limits : Limits) (meaning : Meaning) : Type 0 where
  pub payloads : ¬ (IsOverPayloadBound limits meaning)
  pub short : length (description_text format meaning) ≤ limits.file

-- The text is the description of what the file means, in a form. It means nothing else.
pub record IsDescription (format : Format) (limits : Limits) (file text : List ℕ) : Type 0 where
  pub meaning : Meaning
  pub means : MeansOnly limits file meaning
  pub within : CanBeDescribed format limits meaning
  pub is_text : text ≡ description_text format meaning

-- The payloads of a meaning are over the payload bound, or its description in a form is longer than
-- the limit.
abbrev pub IsTooLongToDescribe : Format → Limits → Meaning → Type 0
IsTooLongToDescribe format limits meaning =
    IsOverPayloadBound limits meaning ⊎ (limits.file < length (description_text format meaning))

-- The error that describing a meaning in a form can have, whatever file it was read from: TooLarge
-- at the limit if it is too long to describe, or that memory ran out.
abbrev pub IsImageError : Format → Limits → Meaning → Error → Type 0
IsImageError format limits meaning =
    IsFaultOrNoMemory
    (λ fault. IsTooLongToDescribe format limits meaning × (fault ≡ too_large limits.file))

-- The file means something that is too long to describe in a form.
pub record MeansTooMuch (format : Format) (limits : Limits) (file : List ℕ) : Type 0 where
  pub meaning : Meaning
  pub means : Means limits file meaning
  pub is_too_long : IsTooLongToDescribe format limits meaning

-- The error that describing a file in memory can have: one of reading it, or TooLarge at the limit
-- if it means something that is too long to describe.
abbrev pub IsDescribeError : Format → Limits → List ℕ → Error → Type 0
IsDescribeError format limits file =
    IsReadErrorOrTooLarge limits file (MeansTooMuch format limits file)

-- What describing promises as a command.
abbrev pub describe_promise : Format → Limits → CommandPromise (Unit {0}) Error
describe_promise format limits =
    unit_promise (IsDescription format limits) (IsDescribeError format limits)

pub describe_laws : (format : Format) (limits : Limits)
    → PromiseLaws (describe_promise format limits)
describe_laws format limits =
    unit_laws (IsDescription format limits) (IsDescribeError format limits)
    (λ input is. is) (λ input is. is)
