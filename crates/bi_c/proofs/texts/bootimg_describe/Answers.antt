use Rattle.std.proofs.Common.{refl, string_bytes}
use Rattle.bi_common.specs.declared.format.Format.TheVariants.{Lines}
use Rattle.bi_describe.specs.Describing.{IsDescription, IsDescribeError}
use Rattle.bi_c.specs.declared.failure.Failure.TheVariants.{WrongArgument}
use Rattle.bi_c.specs.Answers.{FilledNothing}
use Rattle.bi_c.proofs.CallAnswers.{not_so, is_so, text_fills}
use Rattle.bi_c.proofs.CheckFacts.{limits_are_wrong}
use Rattle.bi_c.proofs.texts.bootimg_describe.Goals as goal

pub returns-in_default : goal.returns-in_default
returns-in_default c = FilledNothing (WrongArgument c.wrong_limit.result 0)
    (limits_are_wrong c.args.limit c.args.depth _ c.wrong_limit.ensures (not_so _ c.in_default.ensures.in_range))
    refl c.fail.ensures.answer c.fail.ensures.status

pub returns : goal.returns
returns c =
    text_fills c.args.limit c.args.depth (λ limits text. IsDescription Lines limits c.args.file.now text)
    (λ limits. IsDescribeError Lines limits c.args.file.now) (λ text. string_bytes text) c.in-Some.limits c.describe.result _ _ _ _
    (is_so _ c.in-Some.ensures.in_range) c.in-Some.ensures.value (λ l is. is) (λ l is. is) c.describe.ensures.described
    c.describe.ensures.failed c.fill_text.ensures
