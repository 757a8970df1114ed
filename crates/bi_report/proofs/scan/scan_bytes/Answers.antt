use Rattle.std.proofs.Common.{rules}
use Rattle.bi_report.proofs.ScannedLines.{scan_kept}
use Rattle.bi_report.proofs.scan.scan_bytes.Goals as goal

pub returns-clause-scanned : goal.returns-clause-scanned
returns-clause-scanned c =
    scan_kept c.args.format c.args.limits c.args.file.now c.in_ok-text.text.items _ _ c.in_ok-found.found (search rules) c.new-pen.ensures
    c.in_ok-text.ensures.text c.in_ok-found.ensures.text
