use Rattle.std.proofs.Common.{subst, IfErr}
use Rattle.bi_base.specs.Commands.{AppendFailed}
use Rattle.bi_norm.specs.FitBuilding.{PlanSpecModel, IsBuiltAs, IsBuildErrorAs}
use Rattle.bi_norm.proofs.fit_building.build_fit_into.Goals as goal

pub returns-clause-failed : goal.returns-clause-failed
returns-clause-failed g c =
    subst
    (λ (plan : PlanSpecModel). IfErr c.build_fit_as_into.result
    (AppendFailed g.S.Sink.fails (IsBuiltAs c.args.limits c.args.form c.args.head plan c.args.images.now)
    (IsBuildErrorAs c.args.limits c.args.form c.args.head plan c.args.images.now) c.args.sink.now c.build_fit_as_into.new.sink))
    c.new.ensures c.build_fit_as_into.ensures.failed
