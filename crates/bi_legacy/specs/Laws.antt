use Rattle.std.specs.Prelude.{ℕ, ◌^◌, ◌<◌, ◌≤◌, ◌≡◌, ◌↔◌, ◌⊎◌, List, length}
use Rattle.std.specs.List.{AllByRecursion}
use Rattle.bi_base.specs.declared.fault.Fault.{Fault}
use Rattle.bi_base.specs.Cells.{AreBytes}
use Rattle.bi_base.specs.Limits.{Limits}
use Rattle.bi_legacy.specs.Meaning.{LegacyImage, FitsFields, with_new_time}
use Rattle.bi_legacy.specs.File.{BeginsWithMagic, IsLegacyFile, LegacyMeans}
use Rattle.bi_legacy.specs.Text.{legacy_text, IsLegacyImage}
use Rattle.bi_legacy.specs.Faults.{IsLegacyFault, HasNoLegacyFault}
use Rattle.bi_legacy.specs.Emitting.{HasNoEmitFault}
use Rattle.bi_legacy.specs.NormalForm.{HasNormalForm}

-- The laws of legacy images (U-Boot, include/image.h; profile of this project). A function of
-- `laws` proves each of them.

-- A file means at most one image.
abbrev pub OneLegacyMeaning : Type 0
OneLegacyMeaning = (file : List ℕ) (a b : LegacyImage) → IsLegacyFile file a → IsLegacyFile file b
    → a ≡ b

-- A file that is shorter than four bytes, or does not begin with the magic number, means no image
-- within any limits.
abbrev pub NoMeaningWithoutMagic : Type 0
NoMeaningWithoutMagic =
    (file : List ℕ) (limits : Limits) → ¬ (BeginsWithMagic file) →
    (image : LegacyImage) → ¬ (LegacyMeans limits file image)

-- A normal text begins with the magic number.
abbrev pub TextBeginsWithMagic : Type 0
TextBeginsWithMagic = (image : LegacyImage) → BeginsWithMagic (legacy_text image)

-- Bytes mean an image within the limits if and only if no check fails.
abbrev pub MeaningWithoutFault : Type 0
MeaningWithoutFault =
    (file : List ℕ) (limits : Limits) → AreBytes file →
    ((image : LegacyImage) × LegacyMeans limits file image) ↔ HasNoLegacyFault limits file

-- Bytes mean an image within the limits or have a fault.
abbrev pub LegacyMeaningOrFault : Type 0
LegacyMeaningOrFault =
    (file : List ℕ) (limits : Limits) → AreBytes file →
    ((image : LegacyImage) × LegacyMeans limits file image)
    ⊎ ((fault : Fault) × IsLegacyFault limits file fault)

-- A file with a fault means no image within the limits.
abbrev pub NoMeaningWithFault : Type 0
NoMeaningWithFault =
    (file : List ℕ) (limits : Limits) (fault : Fault) → IsLegacyFault limits file fault →
    (image : LegacyImage) → ¬ (LegacyMeans limits file image)

-- A file has at most one fault.
abbrev pub OneLegacyFault : Type 0
OneLegacyFault =
    (file : List ℕ) (limits : Limits) (a b : Fault) →
    IsLegacyFault limits file a → IsLegacyFault limits file b → a ≡ b

-- An image fits the format if and only if some file means it.
abbrev pub ImagesOfFiles : Type 0
ImagesOfFiles =
    (image : LegacyImage) → IsLegacyImage image ↔ ((file : List ℕ) × IsLegacyFile file image)

-- The normal text of an image that a file means within the limits means it within the same limits.
abbrev pub TextMeansImage : Type 0
TextMeansImage =
    (file : List ℕ) (image : LegacyImage) (limits : Limits) → LegacyMeans limits file image →
    LegacyMeans limits (legacy_text image) image

-- The normal text of the image that a file means is no longer than the file.
abbrev pub TextIsNoLonger : Type 0
TextIsNoLonger =
    (file : List ℕ) (image : LegacyImage) → IsLegacyFile file image →
    length (legacy_text image) ≤ length file

-- A normal text is its own normal text.
abbrev pub TextIsItsOwnNormalForm : Type 0
TextIsItsOwnNormalForm =
    (image other : LegacyImage) → IsLegacyImage image → IsLegacyFile (legacy_text image) other →
    legacy_text other ≡ legacy_text image

-- Two files have the same normal text if and only if they mean the same image.
abbrev pub TextsDiffer : Type 0
TextsDiffer =
    (f g : List ℕ) (a b : LegacyImage) → IsLegacyFile f a → IsLegacyFile g b →
    (legacy_text a ≡ legacy_text b) ↔ (a ≡ b)

-- An image that a file means within the limits, with another time, has a normal form within them:
-- it can be written, and its normal text is accepted and means it.
abbrev pub UpdatedHasNormalForm : Type 0
UpdatedHasNormalForm =
    (file : List ℕ) (image : LegacyImage) (limits : Limits) (time : ℕ) →
    LegacyMeans limits file image → time < 2 ^ 32 →
    HasNormalForm limits (with_new_time time image)

-- The image has this time, and is otherwise as it was.
pub record HasNewTime (time : ℕ) (old new : LegacyImage) : Type 0 where
  pub time_is : new.time ≡ time
  pub load : new.load ≡ old.load
  pub entry : new.entry ≡ old.entry
  pub os : new.os ≡ old.os
  pub arch : new.arch ≡ old.arch
  pub image_type : new.image_type ≡ old.image_type
  pub compression : new.compression ≡ old.compression
  pub name : new.name ≡ old.name
  pub parts : new.parts ≡ old.parts

-- An image with a new time has this time, and is otherwise as it was.
abbrev pub UpdatedHasNewTime : Type 0
UpdatedHasNewTime =
    (image : LegacyImage) (time : ℕ) → HasNewTime time image (with_new_time time image)

-- An image that a file means within the limits can be written within them.
abbrev pub MeaningCanBeWritten : Type 0
MeaningCanBeWritten =
    (file : List ℕ) (image : LegacyImage) (limits : Limits) →
    LegacyMeans limits file image → HasNoEmitFault limits image

-- The normal text of an image that can be written within the limits means this image within them.
abbrev pub WrittenTextMeansImage : Type 0
WrittenTextMeansImage =
    (image : LegacyImage) (limits : Limits) → FitsFields image → AreBytes image.name →
    AllByRecursion AreBytes image.parts → limits.file < 2 ^ 32 → HasNoEmitFault limits image →
    LegacyMeans limits (legacy_text image) image
