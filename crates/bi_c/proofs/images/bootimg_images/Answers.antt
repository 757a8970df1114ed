use Rattle.std.proofs.Common.{refl}
use Rattle.bi_fit.specs.Reading.{IsFitReadError}
use Rattle.bi_c.specs.declared.failure.Failure.TheVariants.{WrongArgument}
use Rattle.bi_c.specs.Answers.{FilledNothing}
use Rattle.bi_c.proofs.CallAnswers.{not_so, is_so, fills_as, failed_of_one}
use Rattle.bi_c.proofs.CheckFacts.{limits_are_wrong}
use Rattle.bi_c.proofs.ImageFiles.{are_image_elements}
use Rattle.bi_c.proofs.images.bootimg_images.Goals as goal

pub returns-in_default : goal.returns-in_default
returns-in_default c = FilledNothing (WrongArgument c.wrong_limit.result 0)
    (limits_are_wrong c.args.limit c.args.depth _ c.wrong_limit.ensures (not_so _ c.in_default.ensures.in_range))
    refl c.fail.ensures.answer c.fail.ensures.status

pub returns-in-Ok : goal.returns-in-Ok
returns-in-Ok c =
    fills_as _ _ _ _ _ _ _ _
    (λ elements value just. are_image_elements c.args.limit c.args.depth c.args.file.now c.in-Some.limits c.in-Ok.fit elements value
    (is_so _ c.in-Some.ensures.in_range) c.in-Some.ensures.value c.in-Ok.ensures.read just)
    (λ failure none. absurd none) c.fill_images.ensures

pub returns-in-Err : goal.returns-in-Err
returns-in-Err c =
    FilledNothing c.failure_of.result
    (failed_of_one c.args.limit c.args.depth (λ limits. IsFitReadError limits c.args.file.now) c.in-Some.limits c.in-Err.error
    c.failure_of.result (is_so _ c.in-Some.ensures.in_range) c.in-Some.ensures.value c.failure_of.ensures (λ l is. is) (λ l is. is)
    c.in-Err.ensures.failed)
    refl c.fail-in-Err.ensures.answer c.fail-in-Err.ensures.status
