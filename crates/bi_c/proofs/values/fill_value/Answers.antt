use Rattle.std.proofs.Common.{refl}
use Rattle.bi_c.specs.Answers.{FilledNothing}
use Rattle.bi_c.proofs.CallAnswers.{buffer_is_filled}
use Rattle.bi_c.proofs.values.fill_value.Goals as goal

pub returns-in-Ok : goal.returns-in-Ok
returns-in-Ok c =
    buffer_is_filled _ _ c.deref.result.now _ _ 0 _ _
    (rw c.in-Ok.is (record { is_text = c.deref.ensures.value; is_number = refl })) c.fill.ensures.answer c.fill.ensures.filled

pub returns-in-Err : goal.returns-in-Err
returns-in-Err c =
    FilledNothing c.failure_of_getting.result (rw c.in-Err.is c.failure_of_getting.ensures) refl c.fail.ensures.answer c.fail.ensures.status
