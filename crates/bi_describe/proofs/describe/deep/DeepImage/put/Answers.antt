use Rattle.std.proofs.Common.{◌∷◌, [], rules}
use Rattle.bi_common.proofs.WrittenLines.{lines_put}
use Rattle.bi_common.proofs.WrittenTokens.{value_put}
use Rattle.bi_describe.specs.DeepDescriptions.{deep_lines}
use Rattle.bi_describe.specs.DeepJson.{deep_object}
use Rattle.bi_describe.proofs.describe.deep.DeepImage.put.Goals as goal

pub returns-in-Lines-clause-put : goal.returns-in-Lines-clause-put
returns-in-Lines-clause-put g c = λ deep holds.
    rw c.in-Lines.is
    (lines_put g.P.Pen.puts _ _ _ _ _ (deep_lines deep) c.new.ensures.no_word c.new.ensures.same_pen (search rules)
    (c.put_lines.ensures.put deep holds).1)

pub returns-in-Json-clause-put : goal.returns-in-Json-clause-put
returns-in-Json-clause-put g c = λ deep holds.
    rw c.in-Json.is
    (g.met.P.Pen.puts_in_turn _ _ _ _ (10 ∷ [])
    (value_put g.P.Pen.puts _ _ _ _ _ (deep_object deep) c.new-in-Json.ensures.no_comma c.new-in-Json.ensures.same_pen (search rules)
    (c.put_object.ensures deep holds).1)
    c.put.ensures)
