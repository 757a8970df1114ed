use Rattle.std.proofs.Common.{subst, IfErr}
use Rattle.bi_norm.specs.FitBuilding.{PlanSpecModel, IsBuildErrorAs}
use Rattle.bi_norm.proofs.fit_building.build_fit.Goals as goal

pub returns-clause-failed : goal.returns-clause-failed
returns-clause-failed c =
    subst
    (λ (plan : PlanSpecModel). IfErr c.build_fit_as.result
    (IsBuildErrorAs c.args.limits c.args.form c.args.head plan c.args.images.now))
    c.new.ensures c.build_fit_as.ensures.failed
