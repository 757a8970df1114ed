use Rattle.std.proofs.Common.{◌≡◌, ℕ, List, replicate, refl, zero, suc, append-nil, rules}
use Rattle.bi_base.specs.Limits.{Limits}
use Rattle.bi_base.specs.Strings.{IsEmptyOrBeginsWithNul}
use Rattle.bi_legacy.specs.File.{HoldsName, IsLegacyFile, LegacyMeans}
use Rattle.bi_legacy.specs.Meaning.{LegacyImage, IsImageName}
use Rattle.bi_legacy.specs.Text.{name_field, legacy_text, IsLegacyImage}
use Rattle.bi_legacy.proofs.ImageOfFile.{image_of_file, text_no_longer}
use Rattle.bi_legacy.proofs.NormalBytes.{legacy_text_bytes}
use Rattle.bi_legacy.proofs.NormalLength.{length-name_field}
use Rattle.bi_legacy.proofs.NormalParts.{normal_body_holds}
use Rattle.bi_legacy.proofs.OneMeaning.{one_legacy_meaning}

-- The normal text of an image is a file that means this image.

-- Zeros are empty or begin with a zero.
zeros_begin_with_nul : (n : ℕ) → IsEmptyOrBeginsWithNul (replicate n 0)
zeros_begin_with_nul zero = tt
zeros_begin_with_nul (suc n) = refl

-- The normal field of a name holds the name.
name_field_holds : (name : List ℕ) → IsImageName name → HoldsName (name_field name) name
name_field_holds name is = search (rules, zeros_begin_with_nul, length-name_field)

-- The normal text of an image is a file that means this image.
pub legacy_text_means : (image : LegacyImage) → IsLegacyImage image → IsLegacyFile (legacy_text image) image
unfolding legacy_text
legacy_text_means image is = search (rules, append-nil, name_field_holds, normal_body_holds, legacy_text_bytes)

-- The normal text of the image that a file means within the limits means it within them.
pub text_means_same : (file : List ℕ) (image : LegacyImage) (limits : Limits) → LegacyMeans limits file image →
    LegacyMeans limits (legacy_text image) image
text_means_same file image limits means = search (rules, legacy_text_means, image_of_file, text_no_longer)

-- Two images that fit the format and have the same normal text are the same.
pub legacy_texts_differ : (a b : LegacyImage) → IsLegacyImage a → IsLegacyImage b → legacy_text a ≡ legacy_text b → a ≡ b
legacy_texts_differ a b is_a is_b same = one_legacy_meaning (legacy_text b) a b
    (rw (← same) (legacy_text_means a is_a)) (legacy_text_means b is_b)
