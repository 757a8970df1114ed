use Rattle.std.proofs.Common.{sym, subst, true≢false}
use Rattle.std.specs.Prelude.{IsOk}
use Rattle.std.proofs.lemmas.Str.{IsUtf8-from_ascii}
use Rattle.bi_report.proofs.ScannedLines.{scan_is_ascii}
use Rattle.bi_report.proofs.scan.scan_as.Goals as goal

pub unreachable-requires : goal.unreachable-requires
unreachable-requires c =
    true≢false (sym (subst IsOk c.in-Err.is (c.from_utf8.ensures.succeeds
    (IsUtf8-from_ascii _ (scan_is_ascii c.args.format c.args.limits c.args.file.now _ c.in_ok-scan.ensures.scanned.is_scan)))))
