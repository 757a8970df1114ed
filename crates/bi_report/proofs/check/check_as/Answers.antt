use Rattle.std.proofs.Common.{sym, subst, true≢false}
use Rattle.std.specs.Prelude.{IsOk}
use Rattle.std.proofs.lemmas.Result.{err_from_is_err_and}
use Rattle.bi_fit.proofs.AppendedTexts.{error_in_memory}
use Rattle.bi_norm.proofs.NormalForms.{needs_memory}
use Rattle.bi_common.proofs.PrintedWords.{appended_utf8}
use Rattle.bi_report.specs.Checking.{allowed_under}
use Rattle.bi_report.specs.CheckedFiles.{IsChecked, IsCheckError, IsCheckOutput}
use Rattle.bi_report.proofs.AsciiReports.{checked_is_ascii}
use Rattle.bi_report.proofs.check.check_as.Goals as goal

pub returns-in_err-_clean-clause-failed : goal.returns-in_err-_clean-clause-failed
returns-in_err-_clean-clause-failed c =
    let checker = c.args.checker in
    let limits = c.args.limits in
    let file = c.args.file.now in
    let p = err_from_is_err_and c.from_residual.result c.from_residual.ensures.1 in
    rw (p.1, p.2) (error_in_memory _ (IsChecked checker.format (allowed_under checker.policy) limits file) (IsCheckError limits file) _ _ _
    (λ text failed. failed.1) (λ text is. needs_memory limits file is.meaning is.means.means) c.in_err-_clean.ensures.failed)

pub unreachable-requires : goal.unreachable-requires
unreachable-requires c =
    let checker = c.args.checker in
    true≢false (sym (subst IsOk c.in-Err.is (c.from_utf8.ensures.succeeds
    (appended_utf8 (IsCheckOutput checker.format (allowed_under checker.policy) c.args.limits c.in_ok-_clean._clean c.args.file.now) _ _ _
    (λ text is. checked_is_ascii checker.format (allowed_under checker.policy) c.args.limits c.args.file.now text is.checked)
    c.in_ok-_clean.ensures.appended c.new-sink.ensures c.into_vec.ensures))))
