use Rattle.std.proofs.Common.{◌≡◌, ap, refl}
use Rattle.bi_fit.specs.ImageTree.{ImageTree}
use Rattle.bi_legacy.specs.Meaning.{image_of}
use Rattle.bi_norm.specs.Meaning.{Meaning, OfFit, OfLegacy}
use Rattle.bi_describe.specs.declared.describe.DescribedImage.{DescribedImage}
use Rattle.bi_describe.specs.declared.describe.DescribedImage.TheVariants.{Legacy, Fit}
use Rattle.bi_describe.specs.declared.describe.fit.DescribedFit.{DescribedFit}
use Rattle.bi_describe.specs.declared.describe.legacy.DescribedLegacy.{DescribedLegacy}
use Rattle.bi_describe.specs.DescribedImages.{HoldsDescribedTree, HoldsMeaning}
use Rattle.bi_describe.specs.MadeParts.{bytes_of_parts}

-- The meaning that the code has, by its kind.

pub legacy_held : (meaning : Meaning) (made : DescribedImage) (image : DescribedLegacy) → made ≡ Legacy image → HoldsMeaning meaning made →
    OfLegacy (image_of image.fields (bytes_of_parts image.parts.items)) ≡ meaning
legacy_held (OfLegacy whole) made image is holds =
    let own : HoldsMeaning (OfLegacy whole) (Legacy image) = rw is at holds in ap OfLegacy own
legacy_held (OfFit tree) made image is holds =
    let own : HoldsMeaning (OfFit tree) (Legacy image) = rw is at holds in absurd own

pub record HeldTree (meaning : Meaning) (fit : DescribedFit) : Type 0 where
  pub tree : ImageTree
  pub holds : HoldsDescribedTree tree fit
  pub is : OfFit tree ≡ meaning

pub fit_held : (meaning : Meaning) (made : DescribedImage) (fit : DescribedFit) → made ≡ Fit fit → HoldsMeaning meaning made →
    HeldTree meaning fit
fit_held (OfLegacy whole) made fit is holds = let own : HoldsMeaning (OfLegacy whole) (Fit fit) = rw is at holds in absurd own
fit_held (OfFit tree) made fit is holds =
    let own : HoldsMeaning (OfFit tree) (Fit fit) = rw is at holds in record { tree = tree; holds = own; is = refl }
