use Rattle.std.specs.Prelude.{ℕ, ◌≡◌, List}
use Rattle.bi_base.specs.Errors.{FailsWith}
use Rattle.bi_base.specs.declared.fault.Error.{Error}
use Rattle.bi_base.specs.Limits.{Limits}
use Rattle.bi_legacy.specs.Emitting.{HasNoEmitFault, IsEmitFault}
use Rattle.bi_legacy.specs.File.{LegacyMeans}
use Rattle.bi_legacy.specs.Meaning.{LegacyImage}
use Rattle.bi_legacy.specs.Text.{legacy_text}

-- Building a legacy image from fields and parts (U-Boot, include/image.h).

-- The text is the normal text of the image. It is accepted under the same limits, and means the
-- image.
pub record IsBuiltLegacy (limits : Limits) (image : LegacyImage) (text : List ℕ) : Type 0 where
  pub no_fault : HasNoEmitFault limits image
  pub is_text : text ≡ legacy_text image
  pub accepted : LegacyMeans limits text image

-- The error that building the image can have, except those of a sink. Memory is needed only for an
-- image that has no fault.
abbrev pub IsBuildLegacyError : Limits → LegacyImage → Error → Type 0
IsBuildLegacyError limits image =
    FailsWith (IsEmitFault limits image) (HasNoEmitFault limits image)
