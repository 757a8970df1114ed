use Rattle.std.proofs.Common.{refl, subst, ◌∙◌}
use Rattle.bi_base.specs.declared.fault.Error.TheVariants as error
use Rattle.bi_base.specs.Limits.{Limits}
use Rattle.bi_c.specs.declared.failure.Failure.TheVariants as failure
use Rattle.bi_fit.specs.Reading.{IsFitReadError}
use Rattle.bi_c.specs.Answers.{FilledNothing}
use Rattle.bi_c.proofs.CallAnswers.{not_so, is_so, buffer_is_filled, failed_of_one}
use Rattle.bi_c.proofs.CheckFacts.{limits_are_wrong}
use Rattle.bi_c.proofs.FitFiles.{read_needs_memory}
use Rattle.bi_c.proofs.VerdictFiles.{are_hash_elements}
use Rattle.bi_c.proofs.verdicts.bootimg_verdicts.Goals as goal

pub returns-in_default : goal.returns-in_default
returns-in_default c =
    FilledNothing (failure.WrongArgument c.wrong_limit.result 0)
    (limits_are_wrong c.args.limit c.args.depth _ c.wrong_limit.ensures (not_so _ c.in_default.ensures.in_range))
    refl c.fail.ensures.answer c.fail.ensures.status

pub returns-in-Err : goal.returns-in-Err
returns-in-Err c =
    FilledNothing c.failure_of.result
    (failed_of_one c.args.limit c.args.depth (λ limits. IsFitReadError limits c.args.file.now) c.in-Some.limits c.in-Err.error
    c.failure_of.result (is_so _ c.in-Some.ensures.in_range) c.in-Some.ensures.value c.failure_of.ensures (λ l is. is) (λ l is. is)
    c.in-Err.ensures.failed)
    refl c.fail-in-Err.ensures.answer c.fail-in-Err.ensures.status

pub returns-in-Ok-hash_elements : goal.returns-in-Ok-hash_elements
returns-in-Ok-hash_elements c =
    buffer_is_filled _ _ c.deref.result.now _ _ 0 _ _
    (are_hash_elements c.args.limit c.args.depth c.args.file.now c.in-Some.limits c.in-Ok.fit c.deref.result.now
    (is_so _ c.in-Some.ensures.in_range) c.in-Some.ensures.value c.in-Ok.ensures.read
    (c.deref.ensures.value ∙ c.in-Ok-hash_elements.ensures))
    c.fill.ensures.answer c.fill.ensures.filled

pub returns : goal.returns
returns c =
    let file = c.args.file.now in
    FilledNothing failure.OutOfMemory (
      is_so _ c.in-Some.ensures.in_range,
      subst (λ (l : Limits). IsFitReadError l file error.OutOfMemory) c.in-Some.ensures.value
          (read_needs_memory c.in-Some.limits file c.in-Ok.fit c.in-Ok.ensures.read),
    ) refl c.fail-in-Err-hash_elements.ensures.answer c.fail-in-Err-hash_elements.ensures.status
