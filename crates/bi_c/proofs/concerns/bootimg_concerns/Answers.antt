use Rattle.std.proofs.Common.{ap, refl, subst, ◌∙◌}
use Rattle.bi_base.specs.declared.fault.Error.TheVariants as error
use Rattle.bi_base.specs.Limits.{Limits}
use Rattle.bi_report.specs.CheckedFiles.{IsCheckError}
use Rattle.bi_report.specs.CheckedImages.{found_of}
use Rattle.bi_report.specs.Checking.{allowed_under}
use Rattle.bi_c.specs.declared.failure.Failure.TheVariants.{WrongArgument, OutOfMemory}
use Rattle.bi_c.specs.Answers.{FilledNothing}
use Rattle.bi_c.specs.Calls.{HasKinds}
use Rattle.bi_c.proofs.CallAnswers.{not_so, is_so, buffer_is_filled}
use Rattle.bi_c.proofs.CheckedFiles.{call_not_checked}
use Rattle.bi_c.proofs.ConcernFiles.{are_concern_elements, check_needs_memory}
use Rattle.bi_c.specs.declared.argument.Argument.TheVariants.{Kinds}
use Rattle.bi_c.specs.Checks.{LimitsCheck}
use Rattle.bi_c.proofs.CheckFacts.{first_is_wrong, limits_are_wrong, next_is_wrong}
use Rattle.bi_c.proofs.concerns.bootimg_concerns.Goals as goal

pub returns-in_default : goal.returns-in_default
returns-in_default c =
    FilledNothing (WrongArgument c.wrong_limit.result 0)
    (first_is_wrong (LimitsCheck c.args.limit c.args.depth) Kinds (HasKinds c.args.limit c.args.depth c.args.kinds) _ 0
    (λ valid. valid.limits)
    (limits_are_wrong c.args.limit c.args.depth _ c.wrong_limit.ensures (not_so _ c.in_default.ensures.in_range)))
    refl c.fail.ensures.answer c.fail.ensures.status

pub returns-in_default-policy_of : goal.returns-in_default-policy_of
returns-in_default-policy_of c =
    FilledNothing (WrongArgument Kinds 0)
    (next_is_wrong (LimitsCheck c.args.limit c.args.depth) Kinds (HasKinds c.args.limit c.args.depth c.args.kinds)
    (is_so _ c.in-Some.ensures.in_range)
    (λ valid. not_so _ c.in_default-policy_of.ensures.in_range valid.are_kinds))
    refl c.fail-in_default-policy_of.ensures.answer c.fail-in_default-policy_of.ensures.status

pub returns-in-Err : goal.returns-in-Err
returns-in-Err c =
    let valid : HasKinds c.args.limit c.args.depth c.args.kinds = record {
      limits = is_so _ c.in-Some.ensures.in_range;
      are_kinds = is_so _ c.in-Some-policy_of.ensures.in_range;
    } in
    FilledNothing c.failure_of.result
    (call_not_checked c.args.limit c.args.depth c.args.kinds c.in-Some.limits c.args.file.now valid c.in-Some.ensures.value
    c.failure_of.result (record { cause = c.in-Err.error; is_failure = c.failure_of.ensures; is_error = c.in-Err.ensures.failed }))
    refl c.fail-in-Err.ensures.answer c.fail-in-Err.ensures.status

pub returns-in-Ok-concern_elements : goal.returns-in-Ok-concern_elements
returns-in-Ok-concern_elements c =
    let valid : HasKinds c.args.limit c.args.depth c.args.kinds = record {
      limits = is_so _ c.in-Some.ensures.in_range;
      are_kinds = is_so _ c.in-Some-policy_of.ensures.in_range;
    } in
    buffer_is_filled _ _ c.deref.result.now _ _ 0 _ _
    (are_concern_elements c.args.limit c.args.depth c.args.kinds c.args.file.now c.in-Some.limits c.allowed_kinds.result
    (found_of c.in-Ok.image) c.deref.result.now valid c.in-Some.ensures.value
    (c.allowed_kinds.ensures ∙ ap allowed_under c.in-Some-policy_of.ensures.value)
    c.in-Ok.ensures.read (c.deref.ensures.value ∙ c.in-Ok-concern_elements.ensures))
    c.fill.ensures.answer c.fill.ensures.filled

pub returns : goal.returns
returns c =
    let valid : HasKinds c.args.limit c.args.depth c.args.kinds = record {
      limits = is_so _ c.in-Some.ensures.in_range;
      are_kinds = is_so _ c.in-Some-policy_of.ensures.in_range;
    } in
    FilledNothing OutOfMemory (
      valid,
      subst (λ (l : Limits). IsCheckError l c.args.file.now error.OutOfMemory) c.in-Some.ensures.value
          (check_needs_memory c.in-Some.limits c.args.file.now (found_of c.in-Ok.image) c.in-Ok.ensures.read),
    ) refl c.fail-in-Err-concern_elements.ensures.answer c.fail-in-Err-concern_elements.ensures.status
