use Rattle.bi_report.specs.Scanning.{scanned_tokens}
use Rattle.bi_report.proofs.ScannedLines.{HasPutBefore}
use Rattle.bi_report.proofs.scan.lines.put_objects.Given as goal

abbrev pub invariant-loop-offset : goal.invariant-loop-offset
invariant-loop-offset g l =
    HasPutBefore g.J.JsonPen.puts scanned_tokens l.limits l.file
    l.offset-iterator l.end l.any l.initial.json l.json
