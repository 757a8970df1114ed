use Rattle.std.proofs.Common.{sym, subst, true≢false}
use Rattle.std.specs.Prelude.{IsOk}
use Rattle.std.proofs.lemmas.Result.{err_from_is_err_and}
use Rattle.bi_common.proofs.PrintedWords.{appended_utf8}
use Rattle.bi_report.specs.ListedFiles.{IsListing}
use Rattle.bi_report.proofs.AsciiListings.{listing_is_ascii}
use Rattle.bi_report.proofs.ListedFiles.{failed_in_memory}
use Rattle.bi_report.proofs.list.listing_as.Goals as goal

pub returns-in_err-list_into-clause-failed : goal.returns-in_err-list_into-clause-failed
returns-in_err-list_into-clause-failed c =
    let p = err_from_is_err_and c.from_residual.result c.from_residual.ensures.1 in
    rw (p.1, p.2) (failed_in_memory c.args.format c.args.limits c.args.file.now _ _ _ c.in_err-list_into.ensures.failed)

pub unreachable-requires : goal.unreachable-requires
unreachable-requires c =
    true≢false (sym (subst IsOk c.in-Err.is (c.from_utf8.ensures.succeeds
    (appended_utf8 (IsListing c.args.format c.args.limits c.args.file.now) _ _ _
    (listing_is_ascii c.args.format c.args.limits c.args.file.now)
    c.in_ok-list_into.ensures.appended c.new-sink.ensures c.into_vec.ensures))))
