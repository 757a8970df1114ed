use Rattle.std.proofs.Common.{[], refl, inl, inr, rules}
use Rattle.bi_norm.specs.FitBuilding.{BuildPasses, HasFields, HasCodeNames}
use Rattle.bi_norm.specs.BuildChecks.{at_index, given_image}
use Rattle.bi_norm.proofs.fit_building.images.check_image.Goals as goal

pub returns-in_default-clause-fault : goal.returns-in_default-clause-fault
returns-in_default-clause-fault c =
    rw c.refuse-in_default.ensures (λ limits form head plan images.
    let given = given_image c.args.image.now c.args.texts c.args.description in
    let fields : BuildPasses limits form head plan images (HasFields (at_index c.args.index [] given)) = search rules in
    let no_names : ¬ (BuildPasses limits form head plan images (HasCodeNames (at_index c.args.index [] given))) = search rules in
    inr (fields, inl (no_names, refl)))
