use Rattle.std.proofs.Common.{ℕ, refl, sym, ap, subst}
use Rattle.bi_base.specs.Limits.{Limits}
use Rattle.bi_fit.specs.Payloads.{IsAt}
use Rattle.bi_legacy.specs.Faults.{IsOnlyLegacyFault}
use Rattle.bi_legacy.specs.Reading.{IsReadLegacy}
use Rattle.bi_c.specs.declared.failure.Failure.TheVariants.{WrongArgument, Refused}
use Rattle.bi_c.specs.declared.legacy.LegacyFields.{LegacyFields}
use Rattle.bi_c.specs.Answers.{WasSet, WasNotSet}
use Rattle.bi_c.proofs.CallAnswers.{not_so, is_so}
use Rattle.bi_c.proofs.CheckFacts.{limits_are_wrong}
use Rattle.bi_c.proofs.LegacyElements.{name_is_there}
use Rattle.bi_c.proofs.legacy.bootimg_legacy.Goals as goal

pub returns-in_default : goal.returns-in_default
returns-in_default c = WasNotSet (WrongArgument c.wrong_limit.result 0)
    (limits_are_wrong c.args.limit c.args.depth _ c.wrong_limit.ensures (not_so _ c.in_default.ensures.in_range))
    refl c.fail.ensures.answer c.fail.ensures.status

pub returns-in-Ok : goal.returns-in-Ok
returns-in-Ok c =
    let file = c.args.file.now in
    let image = c.in-Ok.image in
    WasSet (record {
      limits = is_so _ c.in-Some.ensures.in_range;
      image = image;
      is_read = subst (λ (l : Limits). IsReadLegacy l file image) c.in-Some.ensures.value c.in-Ok.ensures.read;
      are_fields = c.fields_of.ensures;
      name_there = subst (λ (n : ℕ). IsAt file n image.image.name)
          (sym (ap (λ (fields : LegacyFields). fields.name.offset) c.fields_of.ensures))
          (name_is_there file image.image c.in-Ok.ensures.read.means.is_file);
    }) c.succeed.ensures.answer c.succeed.ensures.status

pub returns-in-Err : goal.returns-in-Err
returns-in-Err c =
    let file = c.args.file.now in
    WasNotSet (Refused 1 c.in-Err.fault) (
      is_so _ c.in-Some.ensures.in_range,
      refl,
      subst (λ (l : Limits). IsOnlyLegacyFault l file c.in-Err.fault) c.in-Some.ensures.value c.in-Err.ensures.fault,
    )
    refl c.fail-in-Err.ensures.answer c.fail-in-Err.ensures.status
