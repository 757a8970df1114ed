use Rattle.std.proofs.Common.{◌^◌, ◌<◌, ℕ, List, arith, rules}
use Rattle.bi_base.specs.Limits.{Limits}
use Rattle.bi_legacy.specs.Meaning.{LegacyImage, with_new_time}
use Rattle.bi_legacy.specs.File.{LegacyMeans}
use Rattle.bi_legacy.specs.Text.{IsLegacyImage, legacy_text}
use Rattle.bi_legacy.specs.Laws.{UpdatedHasNewTime}
use Rattle.bi_legacy.specs.NormalForm.{HasNormalForm}
use Rattle.bi_legacy.proofs.ImageOfFile.{image_of_file, text_no_longer}
use Rattle.bi_legacy.proofs.NormalForms.{has_normal_form}
use Rattle.bi_legacy.proofs.NormalLength.{length-legacy_text}
use Rattle.bi_legacy.proofs.TextMeans.{legacy_text_means}

-- An image with a new time has this time and is otherwise as it was, and has a normal form within the limits if a file means it.

pub updated_has_new_time : UpdatedHasNewTime
updated_has_new_time image time = search rules

-- An image with another time fits the format.
is_updated_image : (image : LegacyImage) (time : ℕ) → time < 2 ^ 32 → IsLegacyImage image → IsLegacyImage (with_new_time time image)
is_updated_image image time small is = search rules

-- Its normal text means it within the limits of the file.
updated_text_means : (file : List ℕ) (image : LegacyImage) (limits : Limits) (time : ℕ) → time < 2 ^ 32 → LegacyMeans limits file image →
    LegacyMeans limits (legacy_text (with_new_time time image)) (with_new_time time image)
updated_text_means file image limits time small means =
    let is : IsLegacyImage image = image_of_file file image means.is_file in
    let updated : LegacyImage = with_new_time time image in
    record {
      is_file = legacy_text_means updated (is_updated_image image time small is);
      short = omega (
        arith,
        text_no_longer file image means.is_file,
        means.short,
        length-legacy_text image is.name,
        length-legacy_text updated is.name,
      );
    }

-- So it has a normal form within them.
pub updated_has_normal_form : (file : List ℕ) (image : LegacyImage) (limits : Limits) (time : ℕ) → LegacyMeans limits file image →
    time < 2 ^ 32 → HasNormalForm limits (with_new_time time image)
updated_has_normal_form file image limits time means small =
    has_normal_form (legacy_text (with_new_time time image)) (with_new_time time image) limits
    (updated_text_means file image limits time small means)
