use Rattle.std.proofs.Common.{◌≡◌, ◌++◌, List, ℕ, refl, subst, sym, ap, ◌∙◌}
use Rattle.bi_fit.proofs.AppendedTexts.{error_in_memory}
use Rattle.bi_norm.proofs.NormalForms.{needs_memory}
use Rattle.bi_report.specs.CheckedFiles.{IsChecked, IsCheckError, IsCheckOutput}
use Rattle.bi_report.specs.Checking.{allowed_under}
use Rattle.bi_c.specs.Answers.{FilledNothing}
use Rattle.bi_c.proofs.CallAnswers.{byte_is_flag, buffer_is_filled}
use Rattle.bi_c.proofs.check.fill_concerns.Goals as goal

pub returns-in-Ok : goal.returns-in-Ok
returns-in-Ok c =
    let checker = c.args.checker in
    let appended = c.in-Ok.ensures.appended in
    let same : c.deref.result.now ≡ appended.text = c.deref.ensures.value ∙ c.into_vec.ensures ∙ appended.appended
    ∙ ap (λ (l : List ℕ). l ++ appended.text) c.new-sink.ensures in
    buffer_is_filled _ _ c.deref.result.now _ _ c.from.result _ _
    (record {
      clean = c.in-Ok.clean;
      number = c.from.ensures ∙ byte_is_flag c.in-Ok.clean;
      is = subst (λ (text : List ℕ). IsCheckOutput checker.format (allowed_under checker.policy) c.args.limits c.in-Ok.clean
          c.args.file.now text)
          (sym same) appended.is_text;
    }) c.fill.ensures.answer c.fill.ensures.filled

pub returns-in-Err : goal.returns-in-Err
returns-in-Err c =
    let checker = c.args.checker in
    let limits = c.args.limits in
    let file = c.args.file.now in
    FilledNothing c.failure_of.result (record {
      cause = c.in-Err.error;
      is_failure = c.failure_of.ensures;
      is_error = error_in_memory _ (IsChecked checker.format (allowed_under checker.policy) limits file) (IsCheckError limits file) _ _
          c.in-Err.error
          (λ text failed. failed.1) (λ text is. needs_memory limits file is.meaning is.means.means) c.in-Err.ensures.failed;
    }) refl c.fail.ensures.answer c.fail.ensures.status
