use Rattle.bi_describe.proofs.KeptImageFacts.{fit_images_same, legacy_images_same}
use Rattle.bi_describe.proofs.describe.kept.KeptImage.is_same.Goals as goal

pub returns-in-Legacy-Legacy : goal.returns-in-Legacy-Legacy
returns-in-Legacy-Legacy c =
    legacy_images_same c.is_same.result c.args.self.now c.args.other.now _ _ c.in-Legacy-Legacy.is-0 c.in-Legacy-Legacy.is-1
    c.is_same.ensures

pub returns-in-Fit-Fit : goal.returns-in-Fit-Fit
returns-in-Fit-Fit c =
    fit_images_same c.is_same-in-Fit-Fit.result c.args.self.now c.args.other.now _ _ c.in-Fit-Fit.is-0 c.in-Fit-Fit.is-1
    c.is_same-in-Fit-Fit.ensures
