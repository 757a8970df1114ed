use Rattle.std.proofs.Common.{◌≡◌, ◌≤◌, List, refl, ap, ◌∙◌, subst, arith}
use Rattle.std.proofs.lemmas.Result.{err_from_is_err_and}
use Rattle.bi_base.specs.Commands.{WasRefused}
use Rattle.bi_base.specs.Errors.{IsFaultOrNoMemory}
use Rattle.bi_blob.specs.Layout.{longest_text}
use Rattle.bi_fit.specs.Building.{ImageSpecModel, built_tree}
use Rattle.bi_fit.specs.Documents.{IsTextOfTree, IsTextFault}
use Rattle.bi_fit.specs.ImageTree.{ImageTree}
use Rattle.bi_fit.specs.NamedImages.{head_model, named_models}
use Rattle.bi_fit.proofs.AppendedTexts.{result_appended_as, result_failed_as}
use Rattle.bi_norm.specs.FitBuilding.{plan_spec_model, spec_models, plan_for, IsBuiltAs, IsBuildErrorAs}
use Rattle.bi_norm.proofs.BuiltTexts.{text_is_built, text_build_error}
use Rattle.bi_norm.proofs.fit_building.build_fit_as_into.Goals as goal

pub returns-in_err-named-clause-failed : goal.returns-in_err-named-clause-failed
returns-in_err-named-clause-failed g c =
    let p = err_from_is_err_and c.from_residual.result c.from_residual.ensures.1 in
    rw (p.1, p.2) (WasRefused (c.in_err-named.ensures.failed c.args.form) refl)

pub returns-clause-appended : goal.returns-clause-appended
returns-clause-appended g c =
    let limits = c.args.limits in
    let form = c.args.form in
    let plan = plan_spec_model c.args.plan in
    let images = c.args.images.now in
    let tree : List ImageSpecModel → ImageTree = λ named. built_tree (head_model c.args.head) (plan_for plan named) named in
    let same : named_models c.deref.result.now ≡ spec_models plan images = ap named_models c.deref.ensures.value
    ∙ c.in_ok-named.ensures.named in
    let most : limits.file ≤ longest_text = omega arith in
    result_appended_as g.S.Sink.appends (IsTextOfTree limits form (tree (named_models c.deref.result.now)))
    (IsBuiltAs limits form c.args.head plan images) c.args.sink.now c.append_planned.new.sink c.append_planned.result
    (λ text made. text_is_built limits form c.args.head plan images
    (c.in_ok-named.ensures.passed form) c.in_ok-named.ensures.can c.in_ok-named.ensures.is_plan most text
    (subst (λ named. IsTextOfTree limits form (tree named) text) same made))
    c.append_planned.ensures.appended

pub returns-clause-failed : goal.returns-clause-failed
returns-clause-failed g c =
    let limits = c.args.limits in
    let form = c.args.form in
    let plan = plan_spec_model c.args.plan in
    let images = c.args.images.now in
    let tree : List ImageSpecModel → ImageTree = λ named. built_tree (head_model c.args.head) (plan_for plan named) named in
    let same : named_models c.deref.result.now ≡ spec_models plan images = ap named_models c.deref.ensures.value
    ∙ c.in_ok-named.ensures.named in
    let most : limits.file ≤ longest_text = omega arith in
    result_failed_as g.S.Sink.fails (IsTextOfTree limits form (tree (named_models c.deref.result.now)))
    (IsBuiltAs limits form c.args.head plan images)
    (IsFaultOrNoMemory (IsTextFault limits form (tree (named_models c.deref.result.now))))
    (IsBuildErrorAs limits form c.args.head plan images) c.args.sink.now c.append_planned.new.sink c.append_planned.result
    (λ text made. text_is_built limits form c.args.head plan images
    (c.in_ok-named.ensures.passed form) c.in_ok-named.ensures.can c.in_ok-named.ensures.is_plan most text
    (subst (λ named. IsTextOfTree limits form (tree named) text) same made))
    (λ error failed. text_build_error limits form c.args.head plan images
    (c.in_ok-named.ensures.passed form) c.in_ok-named.ensures.can c.in_ok-named.ensures.is_plan most error
    (subst (λ named. IsFaultOrNoMemory (IsTextFault limits form (tree named)) error) same failed))
    c.append_planned.ensures.failed
