use Rattle.std.proofs.Common.{◌∙◌, ap, refl, subst, sym}
use Rattle.std.proofs.lemmas.Result.{err_from_is_err_and}
use Rattle.bi_base.specs.Slices.{bytes_of}
use Rattle.bi_norm.specs.declared.fit_building.PlanSpec.{PlanSpec}
use Rattle.bi_c.specs.PlanBuilding.{IsPlanFailure, pieces_of_call}
use Rattle.bi_c.proofs.PlanBuilding.{IsMadeOf, from_options, no_configurations, no_planned_tree, planned_tree, specs_inside}
use Rattle.bi_c.proofs.plan_building.build_planned.Goals as goal

pub returns-in_err-parts-clause-failed : goal.returns-in_err-parts-clause-failed
returns-in_err-parts-clause-failed c =
    let p = err_from_is_err_and c.from_residual.result c.from_residual.ensures.1 in
    rw (p.1, p.2) (c.in_err-parts.ensures.failed c.args.options.now c.in-Some.ensures.settings.valid)

pub returns-in_default-clause-failed : goal.returns-in_default-clause-failed
returns-in_default-clause-failed c =
    from_options (pieces_of_call c.args.input.now c.args.options.now c.args.arrays) c.wrong_option.result 0
    (c.wrong_option.ensures c.in_default.ensures.none)

pub returns-in_err-configurations-clause-failed : goal.returns-in_err-configurations-clause-failed
returns-in_err-configurations-clause-failed c =
    let arrays = c.args.arrays in
    let are = c.in_ok-parts.ensures.parts in
    let p = err_from_is_err_and c.from_residual-in_err-configurations.result c.from_residual-in_err-configurations.ensures.1 in
    rw (p.1, p.2) (no_configurations (pieces_of_call c.args.input.now c.args.options.now arrays) c.in-Some.ensures.settings.valid
    (specs_inside c.args.input.now arrays.images.now c.in_ok-parts.parts.images.items are.images) are.texts_inside are.lists_inside
    are.are_numbers c.in_err-configurations.field-0.0
    (c.in_err-configurations.ensures.failed arrays.lists.now (ap bytes_of c.deref.ensures.value ∙ are.lists)))

pub returns-in-Ok-clause-built : goal.returns-in-Ok-clause-built
returns-in-Ok-clause-built c =
    let input = c.args.input.now in
    let options = c.args.options.now in
    let arrays = c.args.arrays in
    let settings = c.in-Some.settings in
    let parts = c.in_ok-parts.parts in
    let are_parts = c.in_ok-parts.ensures.parts in
    let are = c.in_ok-configurations.ensures.configurations arrays.lists.now (ap bytes_of c.deref.ensures.value ∙ are_parts.lists) in
    let plan : PlanSpec = record {
      configurations = c.deref-2.result;
      default = settings.default;
      algorithms = c.deref-3.result;
      texts = c.deref-4.result;
      descriptions = c.deref-5.result;
    } in
    let made : IsMadeOf settings parts c.in_ok-configurations.configurations.items plan = record {
      configurations = c.deref-2.ensures.value;
      default = refl;
      algorithms = c.deref-3.ensures.value;
      texts = c.deref-4.ensures.value;
      descriptions = c.deref-5.ensures.value;
    } in
    planned_tree input options arrays settings parts c.in_ok-configurations.configurations.items c.in-Some.ensures.settings are_parts are
    plan c.deref-6.result.now made c.deref-6.ensures.value c.in-Ok.text.items c.in-Ok.ensures.built

pub returns-clause-failed : goal.returns-clause-failed
returns-clause-failed c =
    let input = c.args.input.now in
    let options = c.args.options.now in
    let arrays = c.args.arrays in
    let settings = c.in-Some.settings in
    let parts = c.in_ok-parts.parts in
    let are_parts = c.in_ok-parts.ensures.parts in
    let are = c.in_ok-configurations.ensures.configurations arrays.lists.now (ap bytes_of c.deref.ensures.value ∙ are_parts.lists) in
    let plan : PlanSpec = record {
      configurations = c.deref-2.result;
      default = settings.default;
      algorithms = c.deref-3.result;
      texts = c.deref-4.result;
      descriptions = c.deref-5.result;
    } in
    let made : IsMadeOf settings parts c.in_ok-configurations.configurations.items plan = record {
      configurations = c.deref-2.ensures.value;
      default = refl;
      algorithms = c.deref-3.ensures.value;
      texts = c.deref-4.ensures.value;
      descriptions = c.deref-5.ensures.value;
    } in
    subst (IsPlanFailure (pieces_of_call input options arrays)) (sym c.failure_of.ensures)
    (no_planned_tree input options arrays settings parts c.in_ok-configurations.configurations.items c.in-Some.ensures.settings are_parts
    are plan c.deref-6.result.now made c.deref-6.ensures.value c.in-Err.error c.in-Err.ensures.failed)
