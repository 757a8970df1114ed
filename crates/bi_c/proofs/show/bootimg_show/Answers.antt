use Rattle.std.proofs.Common.{refl, string_bytes}
use Rattle.bi_report.specs.CheckedFiles.{IsCheckError}
use Rattle.bi_show.specs.ShownFiles.{IsPage}
use Rattle.bi_c.specs.declared.failure.Failure.TheVariants.{WrongArgument}
use Rattle.bi_c.specs.Answers.{FilledNothing, failure_of_error}
use Rattle.bi_c.specs.Arguments.{HasLayout}
use Rattle.bi_c.specs.Calls.{IsPageFailure, IsPageText}
use Rattle.bi_c.proofs.CallAnswers.{not_so, is_so, made_fills}
use Rattle.bi_c.proofs.ShownPages.{shown_as, not_shown}
use Rattle.bi_c.specs.declared.argument.Argument.TheVariants.{Layout}
use Rattle.bi_c.specs.Checks.{LimitsCheck}
use Rattle.bi_c.proofs.CheckFacts.{first_is_wrong, limits_are_wrong, next_is_wrong}
use Rattle.bi_c.proofs.show.bootimg_show.Goals as goal

pub returns-in_default : goal.returns-in_default
returns-in_default c =
    FilledNothing (WrongArgument c.wrong_limit.result 0)
    (first_is_wrong (LimitsCheck c.args.limit c.args.depth) Layout (HasLayout c.args.limit c.args.depth c.args.layout) _ 0
    (λ valid. valid.limits)
    (limits_are_wrong c.args.limit c.args.depth _ c.wrong_limit.ensures (not_so _ c.in_default.ensures.in_range)))
    refl c.fail.ensures.answer c.fail.ensures.status

pub returns-in_default-yes_of : goal.returns-in_default-yes_of
returns-in_default-yes_of c =
    FilledNothing (WrongArgument Layout 0)
    (next_is_wrong (LimitsCheck c.args.limit c.args.depth) Layout (HasLayout c.args.limit c.args.depth c.args.layout)
    (is_so _ c.in-Some.ensures.in_range)
    (λ valid. not_so _ c.in_default-yes_of.ensures.in_range valid.is_layout))
    refl c.fail-in_default-yes_of.ensures.answer c.fail-in_default-yes_of.ensures.status

pub returns : goal.returns
returns c =
    let file = c.args.file.now in
    let limits = c.in-Some.limits in
    let layout = c.in-Some-yes_of.has_layout in
    let valid : HasLayout c.args.limit c.args.depth c.args.layout = record {
      limits = is_so _ c.in-Some.ensures.in_range;
      is_layout = is_so _ c.in-Some-yes_of.ensures.in_range;
    } in
    made_fills (λ text. IsPage layout limits file (string_bytes text)) (IsCheckError limits file) string_bytes (λ _. 0) failure_of_error
    (IsPageText c.args.limit c.args.depth c.args.layout file) (IsPageFailure c.args.limit c.args.depth c.args.layout file) _ _ _ _ _
    (λ text is. shown_as c.args.limit c.args.depth c.args.layout limits layout file (string_bytes text) valid c.in-Some.ensures.value
    c.in-Some-yes_of.ensures.value is)
    (λ error is. not_shown c.args.limit c.args.depth c.args.layout limits file valid c.in-Some.ensures.value error is)
    c.show.ensures.shown c.show.ensures.failed c.fill_text.ensures
