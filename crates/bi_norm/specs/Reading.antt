use Rattle.std.specs.Prelude.{ℕ, ◌≡◌, ◌⊎◌, List}
use Rattle.bi_base.specs.Errors.{FailsWith}
use Rattle.bi_base.specs.declared.fault.Error.{Error}
use Rattle.bi_base.specs.declared.fault.Error.TheVariants.{Refused}
use Rattle.bi_base.specs.Limits.{Limits}
use Rattle.bi_base.specs.Reading.{too_large}
use Rattle.bi_blob.specs.BlobFaults.{HasNoFaultBeforeTree}
use Rattle.bi_fit.specs.Content.{tree_of}
use Rattle.bi_fit.specs.Reading.{IsReadFit}
use Rattle.bi_legacy.specs.File.{LegacyMeans}
use Rattle.bi_legacy.specs.Meaning.{LegacyImage}
use Rattle.bi_legacy.specs.Reading.{IsReadLegacy}
use Rattle.bi_norm.specs.declared.image.BootImage.{BootImage}
use Rattle.bi_norm.specs.declared.image.BootImage.TheVariants.{Legacy, Fit}
use Rattle.bi_norm.specs.declared.kind.Kind.TheVariants as kind
use Rattle.bi_norm.specs.Faults.{IsFileFault}
use Rattle.bi_norm.specs.Kinds.{BeginsAs}
use Rattle.bi_norm.specs.Meaning.{Meaning, OfLegacy, OfFit, MeansNothing}

-- What reading a boot image returns, and what the image means (profile of this project).

-- A boot image that was read from a file.
abbrev pub IsReadBootImage : Limits → List ℕ → BootImage → Type 0
IsReadBootImage limits file (Legacy image) = IsReadLegacy limits file image
IsReadBootImage limits file (Fit content) = IsReadFit limits file content

-- Memory is needed only for a file that passes all checks that need none: a legacy image, or a file
-- that does not begin as one and that has no fault, as a blob, in its header and its memory
-- reservation block.
pub data NeedsMemory (limits : Limits) (file : List ℕ) : Type 0 where
  ForLegacyImage : (image : LegacyImage) → LegacyMeans limits file image → NeedsMemory limits file
  ForTree : ¬ (BeginsAs file kind.Legacy) → HasNoFaultBeforeTree limits file
      → NeedsMemory limits file

-- The error that reading a boot image from a file can have.
abbrev pub IsBootImageReadError : Limits → List ℕ → Error → Type 0
IsBootImageReadError limits file =
    FailsWith (λ fault. IsFileFault limits file fault × MeansNothing limits file)
    (NeedsMemory limits file)

-- The error of a call that reads a boot image and makes something of it: one of reading it, or
-- TooLarge at the limit, if what is made is too large.
abbrev pub IsReadErrorOrTooLarge : Limits → List ℕ → (IsTooLarge : Type 0) → Error → Type 0
IsReadErrorOrTooLarge limits file IsTooLarge =
    FailsWith (λ fault. IsBootImageReadError limits file (Refused fault)
    ⊎ (IsTooLarge × (fault ≡ too_large limits.file)))
    (NeedsMemory limits file)

-- The meaning of a boot image, whatever file it was read from.
abbrev pub meaning_of : BootImage → Meaning
meaning_of (Legacy image) = OfLegacy image.image
meaning_of (Fit content) = OfFit (tree_of content)
