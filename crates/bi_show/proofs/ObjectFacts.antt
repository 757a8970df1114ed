use Rattle.std.proofs.Common.{◌≡◌, [], ◌∷◌, None, refl, rules}
use Rattle.std.specs.Fmt.{digits}
use Rattle.bi_base.specs.Cells.{cell, u32_at, u64_at}
use Rattle.bi_base.specs.Limits.{widest}
use Rattle.bi_legacy.specs.File.{header}
use Rattle.bi_legacy.specs.KnownFiles.{kernel_file_with_rest}
use Rattle.bi_legacy.specs.KnownImages.{kernel_image}
use Rattle.bi_legacy.specs.Laws.{OneLegacyMeaning}
use Rattle.bi_norm.specs.Meaning.{OfLegacy}
use Rattle.bi_norm.proofs.ComparisonFacts.{kernel_with_rest_means, only_image}
use Rattle.bi_report.specs.Checking.{OfLegacyImage, TrailingBytes, Unsigned}
use Rattle.bi_report.proofs.LegacyConcernFacts.{is_read, known_model}
use Rattle.bi_show.specs.KnownObjects.{ObjectValuesAreKnown, ObjectsAreKnown}
use Rattle.bi_show.specs.ShownObjects.{AreShownConcerns, OfLegacyImage as OfLegacyObject}
use Rattle.bi_show.proofs.PageFacts.{legacy_not_over}

-- Values of properties and a small image have known JSON.

pub object_values_are_known : ObjectValuesAreKnown
unfolding cell u32_at u64_at
object_values_are_known = search rules

module _ (one_legacy : OneLegacyMeaning) where
  kernel_concerns : AreShownConcerns widest kernel_file_with_rest (TrailingBytes 7 ∷ [])
  unfolding header cell
  kernel_concerns = record {
    meaning = OfLegacy kernel_image;
    means = only_image one_legacy kernel_file_with_rest kernel_image kernel_with_rest_means;
    within = legacy_not_over widest kernel_image;
    concerns = Unsigned None ∷ TrailingBytes 7 ∷ [];
    are_concerns =
        OfLegacyImage (known_model one_legacy kernel_file_with_rest kernel_image kernel_with_rest_means 7 refl)
        (is_read one_legacy kernel_file_with_rest kernel_image kernel_with_rest_means 7 refl) refl;
    are_kept = refl;
  }

  pub objects_are_known : ObjectsAreKnown
  unfolding header cell digits
  objects_are_known = record {
    kernel = OfLegacyObject (record {
      parsed = known_model one_legacy kernel_file_with_rest kernel_image kernel_with_rest_means 7 refl;
      is_read = is_read one_legacy kernel_file_with_rest kernel_image kernel_with_rest_means 7 refl;
      concerns = TrailingBytes 7 ∷ [];
      are_concerns = kernel_concerns;
      is = refl;
    });
  }
