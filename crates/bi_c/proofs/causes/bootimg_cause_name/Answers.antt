use Rattle.std.proofs.Common.{refl, ◌∙◌}
use Rattle.bi_c.specs.declared.failure.Failure.TheVariants.{WrongArgument}
use Rattle.bi_c.specs.Answers.{FilledNothing}
use Rattle.bi_c.proofs.CallAnswers.{buffer_is_filled}
use Rattle.bi_c.specs.declared.argument.Argument.TheVariants.{Number}
use Rattle.bi_c.proofs.causes.bootimg_cause_name.Goals as goal

pub returns-in-Some : goal.returns-in-Some
returns-in-Some c =
    buffer_is_filled _ _ c.as_bytes.result.now _ _ 0 _ _ (record {
      cause = c.in-Some.cause;
      is_cause = c.in-Some.ensures;
      is_name = c.as_bytes.ensures.value ∙ c.name.ensures;
      no_value = refl;
    }) c.fill.ensures.answer c.fill.ensures.filled

pub returns-in-None : goal.returns-in-None
returns-in-None c = FilledNothing (WrongArgument Number 0) (c.in-None.ensures, refl, refl) refl c.fail.ensures.answer c.fail.ensures.status
