use Rattle.std.proofs.lemmas.Result.{err_from_is_err_and}
use Rattle.bi_norm.specs.FitBuilding.{plan_spec_model}
use Rattle.bi_norm.proofs.BuiltTexts.{memory_build_error}
use Rattle.bi_norm.proofs.fit_building.build_fit_as.Goals as goal

pub returns-in_err-build_fit_as_into-clause-failed : goal.returns-in_err-build_fit_as_into-clause-failed
returns-in_err-build_fit_as_into-clause-failed c =
    let p = err_from_is_err_and c.from_residual.result c.from_residual.ensures.1 in
    rw (p.1, p.2)
    (memory_build_error _ c.args.limits c.args.form c.args.head (plan_spec_model c.args.plan) c.args.images.now _ _
    c.in_err-build_fit_as_into.field-0.0 (λ text failed. failed.1) c.in_err-build_fit_as_into.ensures.failed)
