use Rattle.std.proofs.Common.{◌≡◌, ℕ, refl, subst}
use Rattle.bi_base.specs.Limits.{Limits, IsInRange}
use Rattle.bi_norm.specs.Comparing.{AreCompared}
use Rattle.bi_describe.specs.Comparing.{IsReadingError}
use Rattle.bi_c.specs.declared.failure.Failure.TheVariants.{WrongArgument}
use Rattle.bi_c.specs.Answers.{Returned, Failed}
use Rattle.bi_c.proofs.CallAnswers.{not_so, is_so, byte_is_flag}
use Rattle.bi_c.proofs.CheckFacts.{limits_are_wrong}
use Rattle.bi_c.proofs.ComparedFiles.{failed_of_two}
use Rattle.bi_c.proofs.compare.bootimg_same_meaning.Goals as goal

pub returns-in_default : goal.returns-in_default
returns-in_default c = Failed (WrongArgument c.wrong_limit.result 0)
    (limits_are_wrong c.args.limit c.args.depth _ c.wrong_limit.ensures (not_so _ c.in_default.ensures.in_range))
    c.fail.ensures.answer c.fail.ensures.status

pub returns-in-Ok : goal.returns-in-Ok
returns-in-Ok c =
    Returned 0 c.from.result (record {
      limits = is_so _ c.in-Some.ensures.in_range;
      nothing = refl;
      same = c.in-Ok.same;
      number = subst (λ (n : ℕ). c.from.result ≡ n) (byte_is_flag c.in-Ok.same) c.from.ensures;
      compared = subst (λ (l : Limits). AreCompared l c.args.one.now c.args.other.now c.in-Ok.same)
          c.in-Some.ensures.value c.in-Ok.ensures.compared;
    }) c.succeed.ensures.answer c.succeed.ensures.status

pub returns-in-Err : goal.returns-in-Err
returns-in-Err c =
    let in_range : IsInRange c.args.limit c.args.depth = is_so _ c.in-Some.ensures.in_range in
    Failed c.failure_of_two.result
    (failed_of_two c.args.limit c.args.depth
    (λ limits. IsReadingError limits c.args.one.now c.args.other.now) c.in-Some.limits c.in-Err.error c.failure_of_two.result in_range
    c.in-Some.ensures.value c.failure_of_two.ensures c.in-Err.ensures.failed)
    c.fail-in-Err.ensures.answer c.fail-in-Err.ensures.status
