use Rattle.std.proofs.Common.{sym, subst, true≢false}
use Rattle.std.specs.Prelude.{IsOk}
use Rattle.std.proofs.lemmas.Result.{err_from_is_err_and}
use Rattle.bi_fit.proofs.AppendedTexts.{error_in_memory}
use Rattle.bi_common.proofs.PrintedWords.{appended_utf8}
use Rattle.bi_report.specs.CheckedFiles.{IsCheckError}
use Rattle.bi_show.specs.ShownObjects.{IsShownObject}
use Rattle.bi_show.proofs.ShownObjects.{page_is_ascii, page_needs_memory}
use Rattle.bi_show.proofs.show.json.show_json.Goals as goal

pub returns-in_err-show_json_into-clause-failed : goal.returns-in_err-show_json_into-clause-failed
returns-in_err-show_json_into-clause-failed c =
    let limits = c.args.limits in
    let file = c.args.file.now in
    let p = err_from_is_err_and c.from_residual.result c.from_residual.ensures.1 in
    rw (p.1, p.2) (error_in_memory _ (IsShownObject limits file) (IsCheckError limits file) _ _ _ (λ text failed. failed.1)
    (page_needs_memory limits file) c.in_err-show_json_into.ensures.failed)

pub unreachable-requires : goal.unreachable-requires
unreachable-requires c =
    true≢false (sym (subst IsOk c.in-Err.is (c.from_utf8.ensures.succeeds
    (appended_utf8 (IsShownObject c.args.limits c.args.file.now) _ _ _ (page_is_ascii c.args.limits c.args.file.now)
    c.in_ok-show_json_into.ensures.appended c.new-sink.ensures c.into_vec.ensures))))
