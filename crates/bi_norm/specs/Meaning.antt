use Rattle.std.specs.Prelude.{ℕ, List}
use Rattle.bi_base.specs.Limits.{Limits}
use Rattle.bi_legacy.specs.File.{LegacyMeans}
use Rattle.bi_legacy.specs.Meaning.{LegacyImage}
use Rattle.bi_legacy.specs.Text.{legacy_text}
use Rattle.bi_fit.specs.declared.form.Form.{Form}
use Rattle.bi_fit.specs.File.{FitMeans}
use Rattle.bi_fit.specs.ImageTree.{ImageTree}
use Rattle.bi_fit.specs.Judgement.{signature_count as signatures_of_tree}
use Rattle.bi_fit.specs.Text.{fit_text}

-- What a boot image of any kind means.

-- What a file means: a legacy image or a flattened image tree.
pub data Meaning : Type 0 where
  OfLegacy : (image : LegacyImage) → Meaning
  OfFit : (tree : ImageTree) → Meaning

-- The file, within the limits, means this.
abbrev pub Means : Limits → List ℕ → Meaning → Type 0
Means limits file (OfLegacy image) = LegacyMeans limits file image
Means limits file (OfFit tree) = FitMeans limits file tree

-- The file means nothing within the limits.
abbrev pub MeansNothing : Limits → List ℕ → Type 0
MeansNothing limits file = (meaning : Meaning) → ¬ (Means limits file meaning)

-- The normal text of a meaning in a form, which has no effect on a legacy image (profile of this
-- project).
abbrev pub normal_text : Form → Meaning → List ℕ
normal_text form (OfLegacy image) = legacy_text image
normal_text form (OfFit tree) = fit_text form tree

-- How many signature nodes the tree of a FIT has. A legacy image has none.
abbrev pub meaning_signature_count : Meaning → ℕ
meaning_signature_count (OfLegacy image) = 0
meaning_signature_count (OfFit tree) = signatures_of_tree tree
