use Rattle.std.proofs.Common.{refl, subst}
use Rattle.bi_base.specs.Limits.{Limits}
use Rattle.bi_fit.specs.Reading.{IsFitReadError}
use Rattle.bi_c.specs.declared.failure.Failure.TheVariants.{WrongArgument}
use Rattle.bi_c.specs.Answers.{FilledNothing}
use Rattle.bi_c.specs.Arguments.{HasKey, bounds}
use Rattle.bi_c.proofs.CallAnswers.{not_so, is_so, fills_as}
use Rattle.bi_c.proofs.FitFiles.{tree_failed}
use Rattle.bi_c.proofs.ListedIndices.{listed_as, not_listed}
use Rattle.bi_c.specs.declared.argument.Argument.TheVariants as argument
use Rattle.bi_c.specs.Checks.{LimitsCheck}
use Rattle.bi_c.proofs.CheckFacts.{first_is_wrong, limits_are_wrong, next_is_wrong}
use Rattle.bi_c.specs.Arguments.{KeyCheck}
use Rattle.bi_c.proofs.configurations.bootimg_listed.Goals as goal

pub returns-in_default : goal.returns-in_default
returns-in_default c =
    FilledNothing (WrongArgument c.wrong_limit.result 0)
    (first_is_wrong (LimitsCheck c.args.limit c.args.depth) argument.Key (HasKey c.args.limit c.args.depth c.args.key) _ 0
    (λ valid. valid.limits)
    (limits_are_wrong c.args.limit c.args.depth _ c.wrong_limit.ensures (not_so _ c.in_default.ensures.in_range)))
    refl c.fail.ensures.answer c.fail.ensures.status

pub returns-in_default-key_of : goal.returns-in_default-key_of
returns-in_default-key_of c =
    FilledNothing (WrongArgument argument.Key 0)
    (next_is_wrong (LimitsCheck c.args.limit c.args.depth) argument.Key (HasKey c.args.limit c.args.depth c.args.key)
    (is_so _ c.in-Some.ensures.in_range)
    (λ valid. not_so _ c.in_default-key_of.ensures.in_range valid.is_key))
    refl c.fail-in_default-key_of.ensures.answer c.fail-in_default-key_of.ensures.status

pub returns-in-Ok : goal.returns-in-Ok
returns-in-Ok c =
    let valid : HasKey c.args.limit c.args.depth c.args.key = record {
      limits = is_so _ c.in-Some.ensures.in_range;
      is_key = is_so _ c.in-Some-key_of.ensures.in_range;
    } in
    fills_as _ _ _ _ _ _ _ _
    (listed_as c.args.limit c.args.depth c.args.key c.args.file.now c.args.name.now c.in-Some.limits c.in-Some-key_of.listed c.in-Ok.fit
    valid c.in-Some.ensures.value c.in-Some-key_of.ensures.value c.in-Ok.ensures.read)
    (not_listed c.args.limit c.args.depth c.args.key c.args.file.now c.args.name.now c.in-Some.limits c.in-Some-key_of.listed c.in-Ok.fit
    valid c.in-Some.ensures.value c.in-Some-key_of.ensures.value c.in-Ok.ensures.read)
    c.list_images.ensures

pub returns-in-Err : goal.returns-in-Err
returns-in-Err c =
    let valid : HasKey c.args.limit c.args.depth c.args.key = record {
      limits = is_so _ c.in-Some.ensures.in_range;
      is_key = is_so _ c.in-Some-key_of.ensures.in_range;
    } in
    FilledNothing c.failure_of.result
    (tree_failed (KeyCheck c.args.limit c.args.depth c.args.key) (bounds c.args.limit c.args.depth) c.args.file.now _ c.in-Err.error
    c.failure_of.result valid c.failure_of.ensures
    (subst (λ (l : Limits). IsFitReadError l c.args.file.now c.in-Err.error) c.in-Some.ensures.value c.in-Err.ensures.failed))
    refl c.fail-in-Err.ensures.answer c.fail-in-Err.ensures.status
