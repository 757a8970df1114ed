use Rattle.std.proofs.Common.{◌≡◌, ◌↔◌, IsTrue}
use Rattle.bi_describe.specs.MadeInsides.{is_one_of_places}
use Rattle.bi_describe.specs.OpenedPayloads.{unless_opened}
use Rattle.bi_describe.proofs.KeptImageFacts.{fit_images_by, legacy_images_by}
use Rattle.bi_describe.proofs.describe.kept.KeptImage.is_same_unless_opened.Goals as goal

pub returns-in-Legacy-Legacy : goal.returns-in-Legacy-Legacy
returns-in-Legacy-Legacy c =
    let opened = is_one_of_places c.args.opened.now in
    legacy_images_by (λ one other. IsTrue c.is_same_unless_opened.result ↔ (unless_opened opened one ≡ unless_opened opened other))
    c.args.self.now c.args.other.now _ _ c.in-Legacy-Legacy.is-0 c.in-Legacy-Legacy.is-1 c.is_same_unless_opened.ensures

pub returns-in-Fit-Fit : goal.returns-in-Fit-Fit
returns-in-Fit-Fit c =
    let opened = is_one_of_places c.args.opened.now in
    fit_images_by (λ one other.
    IsTrue c.is_same_unless_opened-in-Fit-Fit.result ↔ (unless_opened opened one ≡ unless_opened opened other)) c.args.self.now
    c.args.other.now _ _ c.in-Fit-Fit.is-0 c.in-Fit-Fit.is-1 c.is_same_unless_opened-in-Fit-Fit.ensures
