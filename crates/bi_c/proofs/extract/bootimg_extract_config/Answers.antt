use Rattle.std.proofs.Common.{ap}
use Rattle.bi_fit.specs.declared.key.Key.{Key}
use Rattle.bi_commands.specs.declared.extract.Select.TheVariants.{Config}
use Rattle.bi_c.specs.declared.failure.Failure.TheVariants.{WrongArgument}
use Rattle.bi_c.specs.Answers.{Failed}
use Rattle.bi_c.specs.Arguments.{bounds, key_of, HasKey}
use Rattle.bi_c.proofs.CallAnswers.{not_so, is_so}
use Rattle.bi_c.proofs.ExtractedFiles.{extract_answers}
use Rattle.bi_c.specs.declared.argument.Argument.TheVariants as argument
use Rattle.bi_c.specs.Checks.{LimitsCheck}
use Rattle.bi_c.proofs.CheckFacts.{first_is_wrong, limits_are_wrong, next_is_wrong}
use Rattle.bi_c.specs.Arguments.{KeyCheck}
use Rattle.bi_c.proofs.extract.bootimg_extract_config.Goals as goal

pub returns-in_default : goal.returns-in_default
returns-in_default c =
    Failed (WrongArgument c.wrong_limit.result 0)
    (first_is_wrong (LimitsCheck c.args.limit c.args.depth) argument.Key (HasKey c.args.limit c.args.depth c.args.key) _ 0
    (λ valid. valid.limits)
    (limits_are_wrong c.args.limit c.args.depth _ c.wrong_limit.ensures (not_so _ c.in_default.ensures.in_range)))
    c.fail.ensures.answer c.fail.ensures.status

pub returns-in_default-key_of : goal.returns-in_default-key_of
returns-in_default-key_of c =
    Failed (WrongArgument argument.Key 0)
    (next_is_wrong (LimitsCheck c.args.limit c.args.depth) argument.Key (HasKey c.args.limit c.args.depth c.args.key)
    (is_so _ c.in-Some.ensures.in_range)
    (λ valid. not_so _ c.in_default-key_of.ensures.in_range valid.is_key))
    c.fail-in_default-key_of.ensures.answer c.fail-in_default-key_of.ensures.status

pub returns : goal.returns
returns c =
    extract_answers (KeyCheck c.args.limit c.args.depth c.args.key) c.in-Some.limits (bounds c.args.limit c.args.depth)
    (Config c.args.name (c.in-Some-key_of.listed) c.args.index) (Config c.args.name (key_of c.args.key) c.args.index) c.args.file.now _ _
    (record { limits = is_so _ c.in-Some.ensures.in_range; is_key = is_so _ c.in-Some-key_of.ensures.in_range })
    c.in-Some.ensures.value (ap (λ (key : Key). Config c.args.name (key) c.args.index) c.in-Some-key_of.ensures.value) c.extract.ensures
