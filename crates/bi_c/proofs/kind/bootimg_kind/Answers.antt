use Rattle.std.proofs.Common.{refl, sym, ap}
use Rattle.bi_c.specs.declared.failure.Failure.TheVariants.{Refused}
use Rattle.bi_c.specs.Answers.{Returned, Failed}
use Rattle.bi_c.specs.Calls.{kind_number}
use Rattle.bi_c.proofs.kind.bootimg_kind.Goals as goal

pub returns-in-Ok-Legacy : goal.returns-in-Ok-Legacy
returns-in-Ok-Legacy c =
    Returned 0 1 (record {
      nothing = refl;
      kind = c.in-Ok-Legacy.field-0;
      begins = c.in-Ok-Legacy.ensures.ok;
      number = sym (ap kind_number c.in-Ok-Legacy.field-0-is);
    }) c.succeed.ensures.answer c.succeed.ensures.status

pub returns-in-Ok-Fit : goal.returns-in-Ok-Fit
returns-in-Ok-Fit c =
    Returned 0 2 (record {
      nothing = refl;
      kind = c.in-Ok-Fit.field-0;
      begins = c.in-Ok-Fit.ensures.ok;
      number = sym (ap kind_number c.in-Ok-Fit.field-0-is);
    }) c.succeed-in-Ok-Fit.ensures.answer c.succeed-in-Ok-Fit.ensures.status

pub returns-in-Err : goal.returns-in-Err
returns-in-Err c =
    Failed (Refused 1 c.in-Err.fault) (refl, c.in-Err.ensures.fault) c.fail.ensures.answer c.fail.ensures.status
