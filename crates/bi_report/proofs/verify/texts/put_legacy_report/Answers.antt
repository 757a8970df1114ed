use Rattle.std.proofs.Common.{◌∷◌, [], rules}
use Rattle.bi_common.proofs.WrittenLines.{lines_put}
use Rattle.bi_common.proofs.WrittenTokens.{value_put}
use Rattle.bi_report.specs.Reports.{legacy_report_lines, legacy_report_object}
use Rattle.bi_report.proofs.verify.texts.put_legacy_report.Goals as goal

pub returns-in-Lines : goal.returns-in-Lines
returns-in-Lines g c =
    rw c.in-Lines.is
    (lines_put g.P.Pen.puts _ _ _ _ _ legacy_report_lines c.new.ensures.no_word c.new.ensures.same_pen (search rules)
    c.put_checksum_lines.ensures.1)

pub returns-in-Json : goal.returns-in-Json
returns-in-Json g c =
    rw c.in-Json.is
    (g.met.P.Pen.puts_in_turn _ _ _ _ (10 ∷ [])
    (value_put g.P.Pen.puts _ _ _ _ _ legacy_report_object c.new-in-Json.ensures.no_comma c.new-in-Json.ensures.same_pen (search rules)
    c.put_checksums_object.ensures.1)
    c.put.ensures)
