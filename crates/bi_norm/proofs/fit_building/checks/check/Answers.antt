use Rattle.std.proofs.Common.{◌≡◌, ◌≤◌, List, length, map, sym, ap, subst, ◌∙◌, arith}
use Rattle.std.specs.Prelude.{IfSome}
use Rattle.std.specs.List.{AllByRecursion}
use Rattle.std.proofs.lemmas.List.{length-map}
use Rattle.std.proofs.lemmas.Result.{err_from_is_err_and}
use Rattle.bi_base.specs.declared.fault.Cause.TheVariants.{BadField}
use Rattle.bi_fit.specs.declared.building.NamedImage.{NamedImage}
use Rattle.bi_fit.specs.Building.{IsText}
use Rattle.bi_fit.specs.NamedImages.{named_model, named_models, configuration_spec_model}
use Rattle.bi_norm.specs.BuildChecks.{AllPass, IsFirstFailure}
use Rattle.bi_norm.specs.FitBuilding.{plan_spec_model, planned_images, spec_model, spec_models, names_of_specs, own_texts_checks}
use Rattle.bi_norm.specs.FitBuilding.{own_texts_of_image}
use Rattle.bi_norm.proofs.BuiltChecks.{can_be_built, plan_is, early_pass, image_error, configuration_error, default_fault}
use Rattle.bi_norm.proofs.BuiltChecks.{image_text_fault, configuration_text_fault}
use Rattle.bi_norm.proofs.ImageChecks.{length-given_images}
use Rattle.bi_norm.proofs.fit_building.checks.check.Goals as goal

pub returns-in_err-checked-clause-failed : goal.returns-in_err-checked-clause-failed
returns-in_err-checked-clause-failed c form =
    let plan = plan_spec_model c.args.plan in
    let images = c.args.images.now in
    let p = err_from_is_err_and c.from_residual-in_err-checked.result c.from_residual-in_err-checked.ensures.1 in
    let few : length images ≤ c.args.limits.file = omega (arith, c.if-images-limit.false, c.file-limit.ensures.value) in
    let few_configurations : length plan.configurations ≤ c.args.limits.file =
    omega (arith, c.if-plan-limit.false, c.file-limit.ensures.value, length-map c.args.plan.configurations.now configuration_spec_model) in
    rw (p.1, p.2)
    (image_error c.args.limits form c.args.head plan images few few_configurations c.in_ok-check_description.ensures.ok.no_zero
    c.in_err-checked.field-0.0 c.in_err-checked.ensures.failed)

pub returns-in_err-check_configurations-clause-failed : goal.returns-in_err-check_configurations-clause-failed
returns-in_err-check_configurations-clause-failed c form =
    let plan = plan_spec_model c.args.plan in
    let images = c.args.images.now in
    let p = err_from_is_err_and c.from_residual-in_err-check_configurations.result
    c.from_residual-in_err-check_configurations.ensures.1 in
    let few : length images ≤ c.args.limits.file = omega (arith, c.if-images-limit.false, c.file-limit.ensures.value) in
    let few_configurations : length plan.configurations ≤ c.args.limits.file =
    omega (arith, c.if-plan-limit.false, c.file-limit.ensures.value, length-map c.args.plan.configurations.now configuration_spec_model) in
    rw (p.1, p.2)
    (configuration_error c.args.limits form c.args.head plan images few few_configurations
    c.in_ok-check_description.ensures.ok.no_zero c.in_ok-checked.ensures.passed c.in_err-check_configurations.field-0.0
    (c.in_err-check_configurations.ensures.failed (names_of_specs images) c.in_ok-checked.ensures.names))

pub returns-in_err-check_default-clause-failed : goal.returns-in_err-check_default-clause-failed
returns-in_err-check_default-clause-failed c form =
    let plan = plan_spec_model c.args.plan in
    let images = c.args.images.now in
    let p = err_from_is_err_and c.from_residual-in_err-check_default.result c.from_residual-in_err-check_default.ensures.1 in
    let few : length images ≤ c.args.limits.file = omega (arith, c.if-images-limit.false, c.file-limit.ensures.value) in
    let few_configurations : length plan.configurations ≤ c.args.limits.file =
    omega (arith, c.if-plan-limit.false, c.file-limit.ensures.value, length-map c.args.plan.configurations.now configuration_spec_model) in
    let of_default = c.in_err-check_default.ensures.fault in
    let at : c.in_err-check_default.field-0.0 ≡ record { cause = BadField; offset = length plan.configurations } =
    of_default.1 ∙ ap (λ offset. record { cause = BadField; offset = offset })
    (sym (length-map c.args.plan.configurations.now configuration_spec_model)) in
    rw (p.1, p.2)
    (default_fault c.args.limits form c.args.head plan images few few_configurations
    c.in_ok-check_description.ensures.ok.no_zero c.in_ok-checked.ensures.passed
    (c.in_ok-check_configurations.ensures.passed (names_of_specs images) c.in_ok-checked.ensures.names)
    c.in_err-check_default.field-0.0 of_default.0 at)

pub check_image_texts-requires : goal.check_image_texts-requires
check_image_texts-requires c =
    let plan = plan_spec_model c.args.plan in
    let images = c.args.images.now in
    let named : List NamedImage = c.deref.result.now in
    let models : named_models named ≡ spec_models plan images = ap named_models c.deref.ensures.value ∙ c.in_ok-checked.ensures.named in
    omega (
      arith,
      ap length models,
      length-map named named_model,
      length-map (planned_images plan images) spec_model,
      length-given_images plan.texts plan.descriptions images,
      c.if-images-limit.false,
      c.file-limit.ensures.value,
    )

pub returns-in_err-check_image_texts-clause-failed : goal.returns-in_err-check_image_texts-clause-failed
returns-in_err-check_image_texts-clause-failed c form =
    let plan = plan_spec_model c.args.plan in
    let images = c.args.images.now in
    let p = err_from_is_err_and c.from_residual-in_err-check_image_texts.result c.from_residual-in_err-check_image_texts.ensures.1 in
    let few : length images ≤ c.args.limits.file = omega (arith, c.if-images-limit.false, c.file-limit.ensures.value) in
    let few_configurations : length plan.configurations ≤ c.args.limits.file =
    omega (arith, c.if-plan-limit.false, c.file-limit.ensures.value, length-map c.args.plan.configurations.now configuration_spec_model) in
    rw (p.1, p.2)
    (image_text_fault c.args.limits form c.args.head plan images few few_configurations
    c.in_ok-check_description.ensures.ok.no_zero c.in_ok-checked.ensures.passed
    (c.in_ok-check_configurations.ensures.passed (names_of_specs images) c.in_ok-checked.ensures.names)
    c.in_ok-check_default.ensures.ok c.in_err-check_image_texts.field-0.0
    (subst (λ models. IsFirstFailure (own_texts_checks 0 (map own_texts_of_image models)) c.in_err-check_image_texts.field-0.0)
    (ap named_models c.deref.ensures.value ∙ c.in_ok-checked.ensures.named) c.in_err-check_image_texts.ensures.fault))

pub returns-in_err-check_configuration_texts-clause-failed : goal.returns-in_err-check_configuration_texts-clause-failed
returns-in_err-check_configuration_texts-clause-failed c form =
    let plan = plan_spec_model c.args.plan in
    let images = c.args.images.now in
    let p = err_from_is_err_and c.from_residual-in_err-check_configuration_texts.result
    c.from_residual-in_err-check_configuration_texts.ensures.1 in
    let few : length images ≤ c.args.limits.file = omega (arith, c.if-images-limit.false, c.file-limit.ensures.value) in
    let few_configurations : length plan.configurations ≤ c.args.limits.file =
    omega (arith, c.if-plan-limit.false, c.file-limit.ensures.value, length-map c.args.plan.configurations.now configuration_spec_model) in
    rw (p.1, p.2)
    (configuration_text_fault c.args.limits form c.args.head plan images few few_configurations
    c.in_ok-check_description.ensures.ok.no_zero c.in_ok-checked.ensures.passed
    (c.in_ok-check_configurations.ensures.passed (names_of_specs images) c.in_ok-checked.ensures.names)
    c.in_ok-check_default.ensures.ok c.in_err-check_configuration_texts.field-0.0
    (subst (λ models. AllPass (own_texts_checks 0 (map own_texts_of_image models)))
    (ap named_models c.deref.ensures.value ∙ c.in_ok-checked.ensures.named)
    c.in_ok-check_image_texts.ensures.passed)
    c.in_err-check_configuration_texts.ensures.fault)

pub returns-clause-passed : goal.returns-clause-passed
returns-clause-passed c form =
    let plan = plan_spec_model c.args.plan in
    let images = c.args.images.now in
    let few : length images ≤ c.args.limits.file = omega (arith, c.if-images-limit.false, c.file-limit.ensures.value) in
    let few_configurations : length plan.configurations ≤ c.args.limits.file =
    omega (arith, c.if-plan-limit.false, c.file-limit.ensures.value, length-map c.args.plan.configurations.now configuration_spec_model) in
    early_pass c.args.limits form c.args.head plan images few few_configurations c.in_ok-check_description.ensures.ok.no_zero
    c.in_ok-checked.ensures.passed
    (c.in_ok-check_configurations.ensures.passed (names_of_specs images) c.in_ok-checked.ensures.names) c.in_ok-check_default.ensures.ok
    (subst (λ models. AllPass (own_texts_checks 0 (map own_texts_of_image models)))
    (ap named_models c.deref.ensures.value ∙ c.in_ok-checked.ensures.named)
    c.in_ok-check_image_texts.ensures.passed)
    c.in_ok-check_configuration_texts.ensures.passed

pub returns-clause-can : goal.returns-clause-can
returns-clause-can c =
    can_be_built c.args.head (plan_spec_model c.args.plan) c.args.images.now c.in_ok-check_description.ensures.ok
    c.in_ok-checked.ensures.can
    (subst (AllByRecursion (λ image. IfSome image.description IsText))
    (ap named_models c.deref.ensures.value ∙ c.in_ok-checked.ensures.named) c.in_ok-check_image_texts.ensures.texts)
    c.in_ok-checked.ensures.distinct

pub returns-clause-is_plan : goal.returns-clause-is_plan
returns-clause-is_plan c =
    let images = c.args.images.now in
    plan_is (plan_spec_model c.args.plan) images
    (c.in_ok-check_configurations.ensures.can (names_of_specs images) c.in_ok-checked.ensures.names)
    c.in_ok-check_configuration_texts.ensures.texts
    c.in_ok-check_configurations.ensures.distinct c.in_ok-check_default.ensures.ok c.few_algorithms.ensures
