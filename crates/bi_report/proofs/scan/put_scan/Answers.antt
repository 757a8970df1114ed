use Rattle.std.proofs.Common.{◌∷◌, [], length, map, rules}
use Rattle.bi_common.specs.declared.format.Format.TheVariants.{Json, Lines}
use Rattle.bi_common.specs.MadeFields.{JsonPuts, LinePuts}
use Rattle.bi_common.proofs.WrittenLines.{lines_put}
use Rattle.bi_common.proofs.WrittenTokens.{value_put}
use Rattle.bi_report.specs.Scanning.{scan_line, scan_line_tokens, scan_object, scan_object_tokens, scan_text}
use Rattle.bi_report.proofs.ScannedLines.{put_as}
use Rattle.bi_report.proofs.scan.put_scan.Goals as goal

pub returns-in_ok-any-in-Lines-clause-text : goal.returns-in_ok-any-in-Lines-clause-text
returns-in_ok-any-in-Lines-clause-text g c =
    let input = c.args.file.now in
    rw c.in-Lines.is
    (put_as (LinePuts g.P.Pen.puts) g.P.Pen.puts scan_line_tokens (scan_text Lines) c.args.limits input (length input)
    c.in_ok-any-in-Lines.any
    c.new.result c.put_lines.new.pen _ _
    (λ images put. lines_put g.P.Pen.puts _ _ _ _ _ (map scan_line images) c.new.ensures.no_word c.new.ensures.same_pen (search rules)
    put.1)
    c.in_ok-any-in-Lines.ensures.lines)

pub returns-in_ok-any-in-Json-clause-text : goal.returns-in_ok-any-in-Json-clause-text
returns-in_ok-any-in-Json-clause-text g c =
    let input = c.args.file.now in
    rw c.in-Json.is
    (put_as (JsonPuts g.P.Pen.puts) g.P.Pen.puts scan_object_tokens (scan_text Json) c.args.limits input (length input)
    c.in_ok-any-in-Json.any
    c.new-in-Json.result c.put_scan_object.new.json _ _
    (λ images put. g.met.P.Pen.puts_in_turn _ _ _ _ (10 ∷ [])
    (value_put g.P.Pen.puts _ _ _ _ _ (scan_object images) c.new-in-Json.ensures.no_comma c.new-in-Json.ensures.same_pen (search rules)
    put.1)
    c.put.ensures)
    c.in_ok-any-in-Json.ensures.object)
