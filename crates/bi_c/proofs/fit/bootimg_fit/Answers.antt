use Rattle.std.proofs.Common.{refl, ◌∙◌, ap}
use Rattle.bi_blob.specs.Blob.{totalsize}
use Rattle.bi_fit.specs.Reading.{IsFitReadError}
use Rattle.bi_c.specs.declared.failure.Failure.TheVariants.{WrongArgument}
use Rattle.bi_c.specs.Answers.{WasSet, WasNotSet}
use Rattle.bi_c.proofs.CallAnswers.{not_so, is_so, failed_of_one}
use Rattle.bi_c.proofs.CheckFacts.{limits_are_wrong}
use Rattle.bi_c.proofs.FitFiles.{means_within}
use Rattle.bi_c.proofs.fit.bootimg_fit.Goals as goal

pub returns-in_default : goal.returns-in_default
returns-in_default c = WasNotSet (WrongArgument c.wrong_limit.result 0)
    (limits_are_wrong c.args.limit c.args.depth _ c.wrong_limit.ensures (not_so _ c.in_default.ensures.in_range))
    refl c.fail.ensures.answer c.fail.ensures.status

pub returns-in-Ok : goal.returns-in-Ok
returns-in-Ok c =
    let read = c.in-Ok.ensures.read in
    WasSet (record {
      limits = is_so _ c.in-Some.ensures.in_range;
      tree = _;
      means = means_within c.args.limit c.args.depth c.args.file.now c.in-Some.limits c.in-Ok.fit c.in-Some.ensures.value read;
      is_cpu = c.fit_fields.ensures.cpu;
      is_size = c.fit_fields.ensures.size ∙ read.held.total_size ∙ ap totalsize read.is_file;
    }) c.succeed.ensures.answer c.succeed.ensures.status

pub returns-in-Err : goal.returns-in-Err
returns-in-Err c =
    WasNotSet c.failure_of.result
    (failed_of_one c.args.limit c.args.depth (λ limits. IsFitReadError limits c.args.file.now) c.in-Some.limits c.in-Err.error
    c.failure_of.result (is_so _ c.in-Some.ensures.in_range) c.in-Some.ensures.value c.failure_of.ensures (λ l is. is) (λ l is. is)
    c.in-Err.ensures.failed)
    refl c.fail-in-Err.ensures.answer c.fail-in-Err.ensures.status
