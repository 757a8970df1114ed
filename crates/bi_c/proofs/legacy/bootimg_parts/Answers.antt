use Rattle.std.proofs.Common.{refl, subst}
use Rattle.bi_base.specs.Limits.{Limits}
use Rattle.bi_legacy.specs.Faults.{IsOnlyLegacyFault}
use Rattle.bi_legacy.specs.Reading.{IsReadLegacy}
use Rattle.bi_c.specs.declared.failure.Failure.TheVariants.{WrongArgument, Refused}
use Rattle.bi_c.specs.Answers.{FilledNothing}
use Rattle.bi_c.proofs.CallAnswers.{not_so, is_so, fills_as}
use Rattle.bi_c.proofs.CheckFacts.{limits_are_wrong}
use Rattle.bi_c.proofs.legacy.bootimg_parts.Goals as goal

pub returns-in_default : goal.returns-in_default
returns-in_default c = FilledNothing (WrongArgument c.wrong_limit.result 0)
    (limits_are_wrong c.args.limit c.args.depth _ c.wrong_limit.ensures (not_so _ c.in_default.ensures.in_range))
    refl c.fail.ensures.answer c.fail.ensures.status

pub returns-in-Ok : goal.returns-in-Ok
returns-in-Ok c =
    let image = c.in-Ok.image in
    fills_as _ _ _ _ _ _ _ _
    (λ regions value just. record {
      limits = is_so _ c.in-Some.ensures.in_range;
      image = image;
      is_read = subst (λ (l : Limits). IsReadLegacy l c.args.file.now image) c.in-Some.ensures.value c.in-Ok.ensures.read;
      are_regions = just.is_text;
      is_unused = just.is_number;
    })
    (λ failure none. absurd none) c.fill_parts.ensures

pub returns-in-Err : goal.returns-in-Err
returns-in-Err c =
    FilledNothing (Refused 1 c.in-Err.fault) (
      is_so _ c.in-Some.ensures.in_range,
      refl,
      subst (λ (l : Limits). IsOnlyLegacyFault l c.args.file.now c.in-Err.fault) c.in-Some.ensures.value c.in-Err.ensures.fault,
    )
    refl c.fail-in-Err.ensures.answer c.fail-in-Err.ensures.status
