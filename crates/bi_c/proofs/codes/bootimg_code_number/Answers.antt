use Rattle.std.proofs.Common.{◌∙◌, ◌<◌, Some, ap, refl, sym, arith}
use Rattle.bi_c.specs.Answers.{Failed, Returned}
use Rattle.bi_c.specs.declared.failure.Failure.TheVariants.{NotFound, WrongArgument}
use Rattle.bi_c.specs.declared.argument.Argument.TheVariants.{Field}
use Rattle.bi_c.specs.Checks.{NoCheck}
use Rattle.bi_c.proofs.CheckFacts.{next_is_wrong}
use Rattle.bi_c.proofs.codes.bootimg_code_number.Goals as goal

pub returns-then-field-gt-CODE_COMPRESSION : goal.returns-then-field-gt-CODE_COMPRESSION
returns-then-field-gt-CODE_COMPRESSION c =
    Failed (WrongArgument Field 0)
    (next_is_wrong NoCheck Field (c.args.field < 4) tt (λ is_field. omega (arith, is_field, c.if-field-gt-CODE_COMPRESSION.true)))
    c.fail.ensures.answer
    c.fail.ensures.status

pub returns-in-Some : goal.returns-in-Some
returns-in-Some c =
    Returned 0 c.from.result (record {
      is_field = omega (arith, c.if-field-gt-CODE_COMPRESSION.false);
      is_code = sym c.in-Some.ensures ∙ ap Some (sym c.from.ensures);
      nothing = refl;
    }) c.succeed.ensures.answer c.succeed.ensures.status

pub returns-in-None : goal.returns-in-None
returns-in-None c =
    Failed (NotFound 15 0) (omega (arith, c.if-field-gt-CODE_COMPRESSION.false), sym c.in-None.ensures, refl, refl)
    c.fail-in-None.ensures.answer c.fail-in-None.ensures.status
