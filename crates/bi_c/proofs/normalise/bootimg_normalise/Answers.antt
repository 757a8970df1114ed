use Rattle.std.proofs.Common.{refl, subst}
use Rattle.bi_norm.specs.Reading.{IsReadBootImage}
use Rattle.bi_c.specs.declared.failure.Failure.TheVariants.{WrongArgument}
use Rattle.bi_c.specs.Answers.{FilledNothing}
use Rattle.bi_c.specs.Arguments.{HasForm}
use Rattle.bi_c.proofs.CallAnswers.{not_so, is_so, fills_as}
use Rattle.bi_norm.proofs.NormalForms.{normalise_error_of_reading}
use Rattle.bi_c.proofs.NormalisedFiles.{normalised_as, not_normalised}
use Rattle.bi_c.specs.declared.argument.Argument.TheVariants.{Form}
use Rattle.bi_c.specs.Checks.{LimitsCheck}
use Rattle.bi_c.proofs.CheckFacts.{first_is_wrong, limits_are_wrong, next_is_wrong}
use Rattle.bi_c.proofs.normalise.bootimg_normalise.Goals as goal

pub returns-in_default : goal.returns-in_default
returns-in_default c =
    FilledNothing (WrongArgument c.wrong_limit.result 0)
    (first_is_wrong (LimitsCheck c.args.limit c.args.depth) Form (HasForm c.args.limit c.args.depth c.args.form) _ 0 (λ valid. valid.limits)
    (limits_are_wrong c.args.limit c.args.depth _ c.wrong_limit.ensures (not_so _ c.in_default.ensures.in_range)))
    refl c.fail.ensures.answer c.fail.ensures.status

pub returns-in_default-form_of : goal.returns-in_default-form_of
returns-in_default-form_of c =
    FilledNothing (WrongArgument Form 0)
    (next_is_wrong (LimitsCheck c.args.limit c.args.depth) Form (HasForm c.args.limit c.args.depth c.args.form)
    (is_so _ c.in-Some.ensures.in_range)
    (λ valid. c.in_default-form_of.ensures.none valid.form valid.is_form))
    refl c.fail-in_default-form_of.ensures.answer c.fail-in_default-form_of.ensures.status

pub normalise_legacy-requires : goal.normalise_legacy-requires
normalise_legacy-requires c = subst (IsReadBootImage c.in-Some.limits c.args.file.now) c.in-Ok-Legacy.field-0-is c.in-Ok-Legacy.ensures.read

pub returns-in-Ok-Legacy : goal.returns-in-Ok-Legacy
returns-in-Ok-Legacy c =
    let file = c.args.file.now in
    let valid : HasForm c.args.limit c.args.depth c.args.form = record {
      limits = is_so _ c.in-Some.ensures.in_range;
      form = c.in-Some-form_of.kind;
      is_form = c.in-Some-form_of.ensures.some;
    } in
    fills_as _ _ _ _ _ _ _ _
    (normalised_as c.args.limit c.args.depth c.args.form c.in-Some.limits file valid c.in-Some.ensures.value)
    (not_normalised c.args.limit c.args.depth c.args.form c.in-Some.limits file valid c.in-Some.ensures.value)
    (c.normalise_legacy.ensures c.in-Some-form_of.kind)

pub returns-in-Ok-Fit : goal.returns-in-Ok-Fit
returns-in-Ok-Fit c =
    let file = c.args.file.now in
    let opened = subst (IsReadBootImage c.in-Some.limits file) c.in-Ok-Fit.field-0-is c.in-Ok-Fit.ensures.read in
    let valid : HasForm c.args.limit c.args.depth c.args.form = record {
      limits = is_so _ c.in-Some.ensures.in_range;
      form = c.in-Some-form_of.kind;
      is_form = c.in-Some-form_of.ensures.some;
    } in
    fills_as _ _ _ _ _ _ _ _
    (normalised_as c.args.limit c.args.depth c.args.form c.in-Some.limits file valid c.in-Some.ensures.value)
    (not_normalised c.args.limit c.args.depth c.args.form c.in-Some.limits file valid c.in-Some.ensures.value)
    (c.normalise_fit.ensures file opened)

pub returns-in-Err : goal.returns-in-Err
returns-in-Err c =
    let file = c.args.file.now in
    let limits = c.in-Some.limits in
    let form = c.in-Some-form_of.kind in
    let valid : HasForm c.args.limit c.args.depth c.args.form = record {
      limits = is_so _ c.in-Some.ensures.in_range;
      form = c.in-Some-form_of.kind;
      is_form = c.in-Some-form_of.ensures.some;
    } in
    FilledNothing c.failure_of.result
    (not_normalised c.args.limit c.args.depth c.args.form limits file valid c.in-Some.ensures.value c.failure_of.result (record {
      cause = c.in-Err.error;
      is_failure = c.failure_of.ensures;
      is_error = normalise_error_of_reading limits form file c.in-Err.error c.in-Err.ensures.failed;
    })) refl c.fail-in-Err.ensures.answer c.fail-in-Err.ensures.status
