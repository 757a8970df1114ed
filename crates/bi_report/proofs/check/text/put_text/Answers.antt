use Rattle.std.proofs.Common.{◌∷◌, [], map, rules}
use Rattle.bi_common.proofs.WrittenLines.{lines_put}
use Rattle.bi_common.proofs.WrittenTokens.{value_put}
use Rattle.bi_report.specs.CheckedImages.{kept_left}
use Rattle.bi_report.specs.Checking.{concern_line, concerns_object}
use Rattle.bi_report.specs.FoundConcerns.{concerns_in}
use Rattle.bi_report.proofs.check.text.put_text.Goals as goal

pub returns-in-Lines-clause-text : goal.returns-in-Lines-clause-text
returns-in-Lines-clause-text g c =
    rw c.in-Lines.is
    (lines_put g.P.Pen.puts _ _ _ _ _ (map concern_line (concerns_in (kept_left c.args.concerns))) c.new.ensures.no_word
    c.new.ensures.same_pen (search rules) c.put_lines.ensures.lines.1)

pub returns-in-Json-clause-text : goal.returns-in-Json-clause-text
returns-in-Json-clause-text g c =
    rw c.in-Json.is
    (g.met.P.Pen.puts_in_turn _ _ _ _ (10 ∷ [])
    (value_put g.P.Pen.puts _ _ _ _ _ (concerns_object (concerns_in (kept_left c.args.concerns))) c.new-in-Json.ensures.no_comma
    c.new-in-Json.ensures.same_pen (search rules) c.put_object-any.ensures.object.1)
    c.put.ensures)
