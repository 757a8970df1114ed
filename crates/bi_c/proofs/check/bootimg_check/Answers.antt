use Rattle.std.proofs.Common.{refl}
use Rattle.bi_common.specs.declared.format.Format.TheVariants.{Lines}
use Rattle.bi_c.specs.declared.failure.Failure.TheVariants.{WrongArgument}
use Rattle.bi_c.specs.Answers.{FilledNothing}
use Rattle.bi_c.specs.Calls.{HasKinds}
use Rattle.bi_c.proofs.CallAnswers.{not_so, is_so, fills_as}
use Rattle.bi_c.proofs.CheckedFiles.{checked_as, call_not_checked}
use Rattle.bi_c.specs.declared.argument.Argument.TheVariants.{Kinds}
use Rattle.bi_c.specs.Checks.{LimitsCheck}
use Rattle.bi_c.proofs.CheckFacts.{first_is_wrong, limits_are_wrong, next_is_wrong}
use Rattle.bi_c.proofs.check.bootimg_check.Goals as goal

pub returns-in_default : goal.returns-in_default
returns-in_default c =
    FilledNothing (WrongArgument c.wrong_limit.result 0)
    (first_is_wrong (LimitsCheck c.args.limit c.args.depth) Kinds (HasKinds c.args.limit c.args.depth c.args.kinds) _ 0
    (λ valid. valid.limits)
    (limits_are_wrong c.args.limit c.args.depth _ c.wrong_limit.ensures (not_so _ c.in_default.ensures.in_range)))
    refl c.fail.ensures.answer c.fail.ensures.status

pub returns-in_default-policy_of : goal.returns-in_default-policy_of
returns-in_default-policy_of c =
    FilledNothing (WrongArgument Kinds 0)
    (next_is_wrong (LimitsCheck c.args.limit c.args.depth) Kinds (HasKinds c.args.limit c.args.depth c.args.kinds)
    (is_so _ c.in-Some.ensures.in_range)
    (λ valid. not_so _ c.in_default-policy_of.ensures.in_range valid.are_kinds))
    refl c.fail-in_default-policy_of.ensures.answer c.fail-in_default-policy_of.ensures.status

pub returns : goal.returns
returns c =
    let valid : HasKinds c.args.limit c.args.depth c.args.kinds = record {
      limits = is_so _ c.in-Some.ensures.in_range;
      are_kinds = is_so _ c.in-Some-policy_of.ensures.in_range;
    } in
    fills_as _ _ _ _ _ _ _ _
    (checked_as Lines c.args.limit c.args.depth c.args.kinds c.in-Some.limits c.in-Some-policy_of.policy c.args.file.now valid
    c.in-Some.ensures.value c.in-Some-policy_of.ensures.value)
    (call_not_checked c.args.limit c.args.depth c.args.kinds c.in-Some.limits c.args.file.now valid c.in-Some.ensures.value)
    c.fill_concerns.ensures
