use Rattle.bi_report.specs.Scanning.{scan_line_tokens}
use Rattle.bi_report.proofs.ScannedLines.{HasPutBefore}
use Rattle.bi_report.proofs.scan.lines.put_lines.Given as goal

abbrev pub invariant-loop-offset : goal.invariant-loop-offset
invariant-loop-offset g l =
    HasPutBefore g.L.LinePen.puts scan_line_tokens l.limits l.file
    l.offset-iterator l.end l.any l.initial.pen l.pen
