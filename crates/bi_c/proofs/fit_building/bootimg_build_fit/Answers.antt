use Rattle.std.proofs.Common.{refl, subst, sym}
use Rattle.std.specs.List.{AllZip}
use Rattle.bi_fit.specs.declared.building.Head.{Head}
use Rattle.bi_c.specs.declared.failure.Failure.TheVariants.{WrongArgument}
use Rattle.bi_c.specs.Answers.{FilledNothing}
use Rattle.bi_c.specs.Arguments.{HasForm}
use Rattle.bi_c.specs.TreeBuilding.{IsSpecOf, IsTreeBuildFailure}
use Rattle.bi_c.proofs.CallAnswers.{not_so, is_so, buffer_is_filled}
use Rattle.bi_c.proofs.TreeBuilding.{no_specs, no_tree_of_pieces, tree_of_pieces}
use Rattle.bi_c.specs.declared.argument.Argument.TheVariants.{Form, Images}
use Rattle.bi_c.specs.Checks.{LimitsCheck}
use Rattle.bi_c.specs.Arguments.{FormCheck}
use Rattle.bi_c.specs.TreeBuilding.{IsSpecInside}
use Rattle.bi_c.proofs.CheckFacts.{before_array_is_wrong, first_is_wrong, limits_are_wrong, next_is_wrong}
use Rattle.bi_c.proofs.fit_building.bootimg_build_fit.Goals as goal

pub returns-in_default : goal.returns-in_default
returns-in_default c =
    FilledNothing (WrongArgument c.wrong_limit.result 0)
    (before_array_is_wrong (FormCheck c.args.limit c.args.depth c.args.form) Images (IsSpecInside c.args.input.now) c.args.images.now _ 0
    (first_is_wrong (LimitsCheck c.args.limit c.args.depth) Form (HasForm c.args.limit c.args.depth c.args.form) _ 0 (λ valid. valid.limits)
    (limits_are_wrong c.args.limit c.args.depth _ c.wrong_limit.ensures (not_so _ c.in_default.ensures.in_range))))
    refl c.fail.ensures.answer c.fail.ensures.status

pub returns-in_default-form_of : goal.returns-in_default-form_of
returns-in_default-form_of c =
    FilledNothing (WrongArgument Form 0)
    (before_array_is_wrong (FormCheck c.args.limit c.args.depth c.args.form) Images (IsSpecInside c.args.input.now) c.args.images.now Form 0
    (next_is_wrong (LimitsCheck c.args.limit c.args.depth) Form (HasForm c.args.limit c.args.depth c.args.form)
    (is_so _ c.in-Some.ensures.in_range)
    (λ valid. c.in_default-form_of.ensures.none valid.form valid.is_form)))
    refl c.fail-in_default-form_of.ensures.answer c.fail-in_default-form_of.ensures.status

pub returns-in-Err : goal.returns-in-Err
returns-in-Err c =
    let valid : HasForm c.args.limit c.args.depth c.args.form = record {
      limits = is_so _ c.in-Some.ensures.in_range;
      form = c.in-Some-form_of.kind;
      is_form = c.in-Some-form_of.ensures.some;
    } in
    FilledNothing c.in-Err.failure
    (no_specs c.args.limit c.args.depth c.args.form c.args.time c.args.input.now c.args.description.now c.args.images.now valid
    c.in-Err.failure c.in-Err.ensures.failed) refl c.fail-in-Err.ensures.answer c.fail-in-Err.ensures.status

pub returns-in-Ok-build_fit : goal.returns-in-Ok-build_fit
returns-in-Ok-build_fit c =
    let input = c.args.input.now in
    let images = c.args.images.now in
    let head : Head = record { description = c.args.description; time = c.args.time } in
    let valid : HasForm c.args.limit c.args.depth c.args.form = record {
      limits = is_so _ c.in-Some.ensures.in_range;
      form = c.in-Some-form_of.kind;
      is_form = c.in-Some-form_of.ensures.some;
    } in
    buffer_is_filled _ _ c.deref-in-Ok-build_fit.result.now _ _ 0 _ _
    (tree_of_pieces c.args.limit c.args.depth c.args.form c.args.time input c.args.description.now images valid c.in-Some.limits
    head c.deref.result.now c.in-Some.ensures.value (record {
      is_description = refl;
      is_time = refl;
      are_specs = subst (AllZip (IsSpecOf input) images) (sym c.deref.ensures.value) c.in-Ok.ensures.specs;
    }) c.in-Ok-build_fit.text.items c.deref-in-Ok-build_fit.result.now c.deref-in-Ok-build_fit.ensures.value
    c.in-Ok-build_fit.ensures.built)
    c.fill.ensures.answer c.fill.ensures.filled

pub returns : goal.returns
returns c =
    let input = c.args.input.now in
    let description = c.args.description.now in
    let images = c.args.images.now in
    let head : Head = record { description = c.args.description; time = c.args.time } in
    let valid : HasForm c.args.limit c.args.depth c.args.form = record {
      limits = is_so _ c.in-Some.ensures.in_range;
      form = c.in-Some-form_of.kind;
      is_form = c.in-Some-form_of.ensures.some;
    } in
    FilledNothing c.failure_of.result
    (subst (IsTreeBuildFailure c.args.limit c.args.depth c.args.form c.args.time input description images) (sym c.failure_of.ensures)
    (no_tree_of_pieces c.args.limit c.args.depth c.args.form c.args.time input description images valid c.in-Some.limits
    head c.deref.result.now c.in-Some.ensures.value (record {
      is_description = refl;
      is_time = refl;
      are_specs = subst (AllZip (IsSpecOf input) images) (sym c.deref.ensures.value) c.in-Ok.ensures.specs;
    }) c.in-Err-build_fit.error c.in-Err-build_fit.ensures.failed))
    refl c.fail-in-Err-build_fit.ensures.answer c.fail-in-Err-build_fit.ensures.status
