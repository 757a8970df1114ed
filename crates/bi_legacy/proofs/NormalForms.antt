use Rattle.std.proofs.Common.{List, ℕ, rules}
use Rattle.bi_base.specs.Limits.{Limits}
use Rattle.bi_legacy.specs.Meaning.{LegacyImage}
use Rattle.bi_legacy.specs.File.{LegacyMeans}
use Rattle.bi_legacy.specs.NormalForm.{HasNormalForm}
use Rattle.bi_legacy.proofs.ImageOfFile.{image_of_file}
use Rattle.bi_legacy.proofs.NoEmitFault.{no_emit_fault}
use Rattle.bi_legacy.proofs.TextMeans.{text_means_same, legacy_texts_differ}

-- Proves that each image that a file means has a normal form.

-- The image that a file means within the limits has a normal form within them.
pub has_normal_form : (file : List ℕ) (image : LegacyImage) (limits : Limits) → LegacyMeans limits file image → HasNormalForm limits image
has_normal_form file image limits means = search (rules, no_emit_fault, text_means_same, legacy_texts_differ, image_of_file)
