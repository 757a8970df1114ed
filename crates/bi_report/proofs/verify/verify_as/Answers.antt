use Rattle.std.proofs.Common.{sym, subst, true≢false}
use Rattle.std.specs.Prelude.{IsOk}
use Rattle.std.proofs.lemmas.Result.{err_from_is_err_and}
use Rattle.bi_common.proofs.PrintedWords.{appended_utf8}
use Rattle.bi_report.specs.VerifiedFiles.{IsVerifyOutput}
use Rattle.bi_report.proofs.AsciiReports.{report_is_ascii}
use Rattle.bi_report.proofs.ImageReports.{not_reported}
use Rattle.bi_report.proofs.verify.verify_as.Goals as goal

pub returns-in_err-all_good-clause-failed : goal.returns-in_err-all_good-clause-failed
returns-in_err-all_good-clause-failed c =
    let p = err_from_is_err_and c.from_residual.result c.from_residual.ensures.1 in
    rw (p.1, p.2) (not_reported c.args.format c.args.limits c.args.file.now _ _ _ c.in_err-all_good.ensures.failed)

pub unreachable-requires : goal.unreachable-requires
unreachable-requires c =
    true≢false (sym (subst IsOk c.in-Err.is (c.from_utf8.ensures.succeeds
    (appended_utf8 (IsVerifyOutput c.args.format c.args.limits c.in_ok-all_good.all_good c.args.file.now) _ _ _
    (λ text is. report_is_ascii c.args.format c.args.limits c.args.file.now text is.report)
    c.in_ok-all_good.ensures.appended c.new-sink.ensures c.into_vec.ensures))))
