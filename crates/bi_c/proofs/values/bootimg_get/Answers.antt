use Rattle.std.proofs.Common.{◌∙◌, ap, refl, subst, sym}
use Rattle.bi_common.proofs.UnshownNames.{some_holds}
use Rattle.bi_values.specs.Getting.{IsGetError, IsTextOfValues}
use Rattle.bi_values.specs.ValueNames.{value_name_models}
use Rattle.bi_c.specs.declared.failure.Failure.TheVariants.{WrongArgument}
use Rattle.bi_c.specs.Answers.{FilledNothing, failure_of_error}
use Rattle.bi_c.specs.ValueCalls.{HasValueForm, IsValueFailure, IsGotten, IsOneName, failure_of_get_error}
use Rattle.bi_c.proofs.CallAnswers.{is_so, made_fills, not_so}
use Rattle.bi_values.proofs.ValueWords.{none_holds}
use Rattle.bi_c.proofs.ValueCallAnswers.{gotten, not_gotten}
use Rattle.bi_c.specs.declared.argument.Argument.TheVariants.{Form, Place}
use Rattle.bi_c.specs.Checks.{LimitsCheck, NextCheck}
use Rattle.bi_c.specs.ValueCalls.{HasPlace}
use Rattle.bi_c.proofs.CheckFacts.{first_is_wrong, limits_are_wrong, next_is_wrong}
use Rattle.bi_c.proofs.values.bootimg_get.Goals as goal

pub returns-in_default : goal.returns-in_default
returns-in_default c =
    FilledNothing (WrongArgument c.wrong_limit.result 0)
    (first_is_wrong (NextCheck (LimitsCheck c.args.limit c.args.depth) Form (HasValueForm c.args.limit c.args.depth c.args.form)) Place
    (HasPlace c.args.limit c.args.depth c.args.form c.args.place.now c.args.name.now) _ 0 (λ valid. valid.arguments)
    (first_is_wrong (LimitsCheck c.args.limit c.args.depth) Form (HasValueForm c.args.limit c.args.depth c.args.form) _ 0
    (λ valid. valid.limits)
    (limits_are_wrong c.args.limit c.args.depth _ c.wrong_limit.ensures (not_so _ c.in_default.ensures.in_range))))
    refl c.fail.ensures.answer c.fail.ensures.status

pub returns-in_default-value_form_of : goal.returns-in_default-value_form_of
returns-in_default-value_form_of c =
    FilledNothing (WrongArgument Form 0)
    (first_is_wrong (NextCheck (LimitsCheck c.args.limit c.args.depth) Form (HasValueForm c.args.limit c.args.depth c.args.form)) Place
    (HasPlace c.args.limit c.args.depth c.args.form c.args.place.now c.args.name.now) Form 0 (λ valid. valid.arguments)
    (next_is_wrong (LimitsCheck c.args.limit c.args.depth) Form (HasValueForm c.args.limit c.args.depth c.args.form)
    (is_so _ c.in-Some.ensures.in_range)
    (λ valid. not_so _ c.in_default-value_form_of.ensures.in_range valid.is_form)))
    refl c.fail-in_default-value_form_of.ensures.answer c.fail-in_default-value_form_of.ensures.status

pub returns-in-Ok-Some : goal.returns-in-Ok-Some
returns-in-Ok-Some c =
    let place = c.args.place.now in
    let name = c.args.name.now in
    let file = c.args.file.now in
    let limits = c.in-Some.limits in
    let form = c.in-Some-value_form_of.form in
    let names = value_name_models c.deref.result.now in
    let valid : HasValueForm c.args.limit c.args.depth c.args.form = record {
      limits = is_so _ c.in-Some.ensures.in_range;
      is_form = is_so _ c.in-Some-value_form_of.ensures.in_range;
    } in
    let one : IsOneName place name names =
    subst (IsOneName place name) (ap value_name_models (sym c.deref.ensures.value))
    (some_holds (λ found. IsOneName place name (value_name_models found.items)) c.in-Ok-Some.field-0 c.in-Ok-Some.names
    c.in-Ok-Some.field-0-is
    c.in-Ok-Some.ensures.some) in
    made_fills (λ text. IsTextOfValues form names limits file text.items) (IsGetError form names limits file) (λ text. text.items) (λ _. 0)
    failure_of_get_error (IsGotten c.args.limit c.args.depth c.args.form place name file)
    (IsValueFailure c.args.limit c.args.depth c.args.form place name file) _ _ _ _ _
    (λ text is. gotten c.args.limit c.args.depth c.args.form place name file text.items form limits names valid one c.in-Some.ensures.value
    c.in-Some-value_form_of.ensures.value is)
    (λ error is. not_gotten c.args.limit c.args.depth c.args.form place name file form limits names error valid one
    c.in-Some.ensures.value c.in-Some-value_form_of.ensures.value is)
    c.get.ensures.values c.get.ensures.failed c.fill_value.ensures

pub returns-in-Ok-None : goal.returns-in-Ok-None
returns-in-Ok-None c =
    FilledNothing (WrongArgument Place 0)
    (next_is_wrong (NextCheck (LimitsCheck c.args.limit c.args.depth) Form (HasValueForm c.args.limit c.args.depth c.args.form)) Place
    (HasPlace c.args.limit c.args.depth c.args.form c.args.place.now c.args.name.now)
    (record { limits = is_so _ c.in-Some.ensures.in_range; is_form = is_so _ c.in-Some-value_form_of.ensures.in_range })
    (λ valid. none_holds _ c.in-Ok-None.field-0 c.in-Ok-None.field-0-is c.in-Ok-None.ensures.none valid.names valid.is_one))
    refl c.fail-in-Ok-None.ensures.answer c.fail-in-Ok-None.ensures.status

-- Memory ran out.
pub returns-in-Err : goal.returns-in-Err
returns-in-Err c =
    let valid : HasValueForm c.args.limit c.args.depth c.args.form = record {
      limits = is_so _ c.in-Some.ensures.in_range;
      is_form = is_so _ c.in-Some-value_form_of.ensures.in_range;
    } in
    FilledNothing c.failure_of.result
    (subst (IsValueFailure c.args.limit c.args.depth c.args.form c.args.place.now c.args.name.now c.args.file.now)
    (sym (c.failure_of.ensures ∙ ap failure_of_error c.in-Err.ensures.failed)) valid)
    refl c.fail-in-Err.ensures.answer c.fail-in-Err.ensures.status
