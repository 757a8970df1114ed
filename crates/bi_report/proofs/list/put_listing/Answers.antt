use Rattle.std.proofs.Common.{◌∷◌, [], rules}
use Rattle.bi_common.proofs.WrittenLines.{lines_put}
use Rattle.bi_common.proofs.WrittenTokens.{value_put}
use Rattle.bi_report.specs.ReadListing.{lines_of_listing, read_object}
use Rattle.bi_report.proofs.list.put_listing.Goals as goal

pub returns-in-Lines : goal.returns-in-Lines
returns-in-Lines g c =
    rw c.in-Lines.is
    (lines_put g.P.Pen.puts _ _ _ _ _ (lines_of_listing c.args.image.now) c.new.ensures.no_word c.new.ensures.same_pen (search rules)
    c.put_lines.ensures.1)

pub returns-in-Json : goal.returns-in-Json
returns-in-Json g c =
    rw c.in-Json.is
    (g.met.P.Pen.puts_in_turn _ _ _ _ (10 ∷ [])
    (value_put g.P.Pen.puts _ _ _ _ _ (read_object c.args.image.now) c.new-in-Json.ensures.no_comma c.new-in-Json.ensures.same_pen
    (search rules) c.put_object.ensures.1)
    c.put.ensures)
