use Rattle.std.proofs.Common.{refl}
use Rattle.bi_commands.specs.declared.extract.Select.TheVariants.{Part}
use Rattle.bi_c.specs.declared.failure.Failure.TheVariants.{WrongArgument}
use Rattle.bi_c.specs.Answers.{Failed}
use Rattle.bi_c.specs.Arguments.{bounds}
use Rattle.bi_c.proofs.CallAnswers.{not_so, is_so}
use Rattle.bi_c.proofs.CheckFacts.{limits_are_wrong}
use Rattle.bi_c.proofs.ExtractedFiles.{extract_answers}
use Rattle.bi_c.specs.Checks.{LimitsCheck}
use Rattle.bi_c.proofs.extract.bootimg_extract_part.Goals as goal

pub returns-in_default : goal.returns-in_default
returns-in_default c = Failed (WrongArgument c.wrong_limit.result 0)
    (limits_are_wrong c.args.limit c.args.depth _ c.wrong_limit.ensures (not_so _ c.in_default.ensures.in_range))
    c.fail.ensures.answer c.fail.ensures.status

pub returns : goal.returns
returns c =
    extract_answers (LimitsCheck c.args.limit c.args.depth) c.in-Some.limits (bounds c.args.limit c.args.depth) (Part c.args.index)
    (Part c.args.index) c.args.file.now _ _
    (is_so _ c.in-Some.ensures.in_range) c.in-Some.ensures.value refl c.extract.ensures
