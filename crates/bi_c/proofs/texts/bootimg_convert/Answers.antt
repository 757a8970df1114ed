use Rattle.std.proofs.Common.{refl}
use Rattle.bi_base.specs.Limits.{IsInRange}
use Rattle.bi_norm.specs.Converting.{IsConvertedFile, IsConvertError}
use Rattle.bi_c.specs.declared.failure.Failure.TheVariants.{WrongArgument}
use Rattle.bi_c.specs.Answers.{FilledNothing}
use Rattle.bi_c.proofs.CallAnswers.{not_so, is_so, buffer_is_filled, failed_of_one, text_of_call}
use Rattle.bi_c.proofs.CheckFacts.{limits_are_wrong}
use Rattle.bi_c.proofs.texts.bootimg_convert.Goals as goal

pub returns-in_default : goal.returns-in_default
returns-in_default c = FilledNothing (WrongArgument c.wrong_limit.result 0)
    (limits_are_wrong c.args.limit c.args.depth _ c.wrong_limit.ensures (not_so _ c.in_default.ensures.in_range))
    refl c.fail.ensures.answer c.fail.ensures.status

pub returns-in-Ok : goal.returns-in-Ok
returns-in-Ok c =
    let in_range : IsInRange c.args.limit c.args.depth = is_so _ c.in-Some.ensures.in_range in
    buffer_is_filled _ _ c.deref.result.now _ _ 0 _ _
    (text_of_call c.args.limit c.args.depth
    (λ limits text. IsConvertedFile limits c.args.file.now text) c.in-Some.limits c.in-Ok.text.items c.deref.result.now in_range
    c.in-Some.ensures.value c.deref.ensures.value c.in-Ok.ensures.converted)
    c.fill.ensures.answer c.fill.ensures.filled

pub returns-in-Err : goal.returns-in-Err
returns-in-Err c =
    let in_range : IsInRange c.args.limit c.args.depth = is_so _ c.in-Some.ensures.in_range in
    FilledNothing c.failure_of.result
    (failed_of_one c.args.limit c.args.depth
    (λ limits error. IsConvertError limits c.args.file.now error) c.in-Some.limits c.in-Err.error c.failure_of.result in_range
    c.in-Some.ensures.value c.failure_of.ensures (λ l is. is) (λ l is. is) c.in-Err.ensures.failed)
    refl c.fail-in-Err.ensures.answer c.fail-in-Err.ensures.status
