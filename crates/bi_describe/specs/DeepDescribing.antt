use Rattle.std.specs.Prelude.{ℕ, ◌<◌, ◌≤◌, ◌≡◌, ◌⊎◌, List, length}
use Rattle.bi_base.specs.Commands.{CommandPromise, PromiseLaws, unit_promise, unit_laws}
use Rattle.bi_base.specs.declared.fault.Error.{Error}
use Rattle.bi_base.specs.Errors.{IsFaultOrNoMemory}
use Rattle.bi_base.specs.Limits.{Limits}
use Rattle.bi_base.specs.Reading.{too_large}
use Rattle.bi_norm.specs.Meaning.{Meaning, Means}
use Rattle.bi_norm.specs.Reading.{IsReadErrorOrTooLarge}
use Rattle.bi_common.specs.declared.format.Format.{Format}
use Rattle.bi_common.specs.declared.format.Format.TheVariants.{Lines, Json}
use Rattle.bi_common.specs.PayloadBounds.{IsOverPayloadBound}
use Rattle.bi_describe.specs.DeepDescriptions.{deep_description}
use Rattle.bi_describe.specs.DeepJson.{deep_json}
use Rattle.bi_describe.specs.Devicetrees.{AreInside, DeepMeaning, Insides, MeansWithInside}

-- Describing a boot image with the devicetrees inside its payloads (profile of this project).

-- The deep description, in a form.
abbrev pub deep_text : Format → DeepMeaning → List ℕ
deep_text Lines deep = deep_description deep
deep_text Json deep = deep_json deep

-- A meaning can be described with what is inside its payloads, in a form within limits: its
-- payloads are within the payload bound, and the deep description is no longer than the limit.
pub record CanBeDescribedDeep (format : Format) (limits : Limits) (deep : DeepMeaning) : Type 0
  where
    pub payloads : ¬ (IsOverPayloadBound limits deep.meaning)
    pub short : length (deep_text format deep) ≤ limits.file

-- The text is the deep description of what the file means, in a form.
pub record IsDeepDescription (format : Format) (limits : Limits) (file text : List ℕ) : Type 0 where
  pub deep : DeepMeaning
  pub means : MeansWithInside limits file deep
  pub within : CanBeDescribedDeep format limits deep
  pub is_text : text ≡ deep_text format deep

-- The text is the deep description of this meaning, in a form.
pub record IsDeepTextOf (format : Format) (limits : Limits) (meaning : Meaning) (text : List ℕ)
    : Type 0
  where
    pub insides : Insides
    pub are_inside : AreInside limits meaning insides
    pub within : CanBeDescribedDeep format limits (record { meaning = meaning; insides = insides })
    pub is_text : text ≡ deep_text format (record { meaning = meaning; insides = insides })

-- The deep description of a meaning is longer than the limit.
pub record HasLongDeepText (format : Format) (limits : Limits) (meaning : Meaning) : Type 0 where
  pub insides : Insides
  pub are_inside : AreInside limits meaning insides
  pub is_long : limits.file
      < length (deep_text format (record { meaning = meaning; insides = insides }))

-- The payloads of a meaning are over the payload bound, or its deep description is longer than the
-- limit.
abbrev pub IsTooLongToDescribeDeep : Format → Limits → Meaning → Type 0
IsTooLongToDescribeDeep format limits meaning =
    IsOverPayloadBound limits meaning ⊎ HasLongDeepText format limits meaning

-- The error that the deep description of a meaning can have, whatever file it was read from:
-- TooLarge at the limit if it is too long, or that memory ran out.
abbrev pub IsDeepImageError : Format → Limits → Meaning → Error → Type 0
IsDeepImageError format limits meaning =
    IsFaultOrNoMemory
    (λ fault. IsTooLongToDescribeDeep format limits meaning × (fault ≡ too_large limits.file))

-- The file means something that is too long to describe with what is inside.
pub record MeansTooMuchWithInside (format : Format) (limits : Limits) (file : List ℕ) : Type 0
  where
    pub meaning : Meaning
    pub means : Means limits file meaning
    pub is_too_long : IsTooLongToDescribeDeep format limits meaning

-- The error that the deep description of a file in memory can have.
abbrev pub IsDeepDescribeError : Format → Limits → List ℕ → Error → Type 0
IsDeepDescribeError format limits file =
    IsReadErrorOrTooLarge limits file (MeansTooMuchWithInside format limits file)

-- What describing with what is inside promises as a command.
abbrev pub deep_promise : Format → Limits → CommandPromise (Unit {0}) Error
deep_promise format limits =
    unit_promise (IsDeepDescription format limits) (IsDeepDescribeError format limits)

pub deep_laws : (format : Format) (limits : Limits) → PromiseLaws (deep_promise format limits)
deep_laws format limits =
    unit_laws (IsDeepDescription format limits) (IsDeepDescribeError format limits)
    (λ input is. is) (λ input is. is)
