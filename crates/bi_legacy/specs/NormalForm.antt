use Rattle.std.specs.Prelude.{◌≡◌, List, ℕ}
use Rattle.bi_base.specs.Limits.{Limits}
use Rattle.bi_legacy.specs.Meaning.{LegacyImage}
use Rattle.bi_legacy.specs.File.{IsLegacyFile, LegacyMeans}
use Rattle.bi_legacy.specs.Text.{legacy_text}
use Rattle.bi_legacy.specs.Emitting.{HasNoEmitFault}

-- The image has a normal form within the limits (profile of this project): it can be written, its
-- normal text means it, and no other image that a file means has this normal text.
pub record HasNormalForm (limits : Limits) (image : LegacyImage) : Type 0 where
  pub can_be_written : HasNoEmitFault limits image
  pub text_means_image : LegacyMeans limits (legacy_text image) image
  pub only_image : (file : List ℕ) (other : LegacyImage) → IsLegacyFile file other →
      legacy_text other ≡ legacy_text image → other ≡ image
