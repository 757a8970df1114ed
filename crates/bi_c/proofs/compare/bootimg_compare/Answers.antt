use Rattle.std.proofs.Common.{refl, string_bytes}
use Rattle.bi_common.specs.declared.format.Format.TheVariants.{Lines}
use Rattle.bi_describe.specs.Comparing.{IsComparison, IsComparisonError}
use Rattle.bi_c.specs.declared.failure.Failure.TheVariants.{WrongArgument}
use Rattle.bi_c.specs.Answers.{FilledNothing}
use Rattle.bi_c.proofs.CallAnswers.{not_so, is_so}
use Rattle.bi_c.proofs.CheckFacts.{limits_are_wrong}
use Rattle.bi_c.proofs.ComparedFiles.{comparison_fills}
use Rattle.bi_c.proofs.compare.bootimg_compare.Goals as goal

pub returns-in_default : goal.returns-in_default
returns-in_default c = FilledNothing (WrongArgument c.wrong_limit.result 0)
    (limits_are_wrong c.args.limit c.args.depth _ c.wrong_limit.ensures (not_so _ c.in_default.ensures.in_range))
    refl c.fail.ensures.answer c.fail.ensures.status

pub returns : goal.returns
returns c =
    comparison_fills c.args.limit c.args.depth (λ limits same text. IsComparison Lines limits c.args.one.now c.args.other.now same text)
    (λ limits. IsComparisonError limits c.args.one.now c.args.other.now) (λ compared. string_bytes compared.differences)
    (λ compared. compared.same) c.in-Some.limits c.compare.result _ _ _ _
    (is_so _ c.in-Some.ensures.in_range) c.in-Some.ensures.value c.compare.ensures.compared c.compare.ensures.failed
    c.fill_comparison.ensures
