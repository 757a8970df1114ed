use Rattle.std.proofs.Common.{refl, ◌∙◌}
use Rattle.bi_c.specs.Answers.{FilledNothing}
use Rattle.bi_c.proofs.CallAnswers.{byte_is_flag, buffer_is_filled}
use Rattle.bi_c.proofs.texts.fill_report.Goals as goal

pub returns-in-Ok : goal.returns-in-Ok
returns-in-Ok c =
    buffer_is_filled _ _ c.as_bytes.result.now _ _ c.from.result _ _
    (rw c.in-Ok.is (record {
      is_text = c.as_bytes.ensures.value;
      is_number = c.from.ensures ∙ byte_is_flag c.in-Ok.report.all_good;
    })) c.fill.ensures.answer c.fill.ensures.filled

pub returns-in-Err : goal.returns-in-Err
returns-in-Err c =
    FilledNothing c.failure_of.result (rw c.in-Err.is c.failure_of.ensures) refl c.fail.ensures.answer c.fail.ensures.status
