use Rattle.std.proofs.Common.{ap, sym, subst, ◌∙◌}
use Rattle.bi_fit.specs.Content.{FitModel, IsHeld, AreAtTheirPlaces}
use Rattle.bi_fit.proofs.PlacedImages.{are_placed}
use Rattle.bi_fit.proofs.fit.Fit.region_digests.Goals as goal

pub returns-clause-placed : goal.returns-clause-placed
returns-clause-placed c =
    subst (λ file. AreAtTheirPlaces file c.args.self.now.images)
    (sym (c.new.ensures ∙ c.file.ensures ∙ ap (λ (content : FitModel). content.blob.file) c.self.view_is))
    (are_placed c.args.self.now (subst IsHeld c.self.view_is c.self.invariant.held))
