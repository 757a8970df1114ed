use Rattle.std.proofs.Common.{◌∷◌, [], rules, subst}
use Rattle.bi_common.specs.JsonTokens.{json_writing}
use Rattle.bi_common.specs.Tokens.{tokens_text}
use Rattle.bi_common.proofs.WrittenLines.{lines_put}
use Rattle.bi_common.proofs.WrittenTokens.{value_put}
use Rattle.bi_describe.specs.DescribedImages.{described_lines}
use Rattle.bi_describe.specs.DescriptionJson.{meaning_object}
use Rattle.bi_describe.proofs.describe.DescribedImage.put.Goals as goal

pub returns-in-Lines-clause-put : goal.returns-in-Lines-clause-put
returns-in-Lines-clause-put g c = λ meaning is.
    rw (c.in-Lines.is, ← is.lines)
    (lines_put g.P.Pen.puts _ _ _ _ _ (described_lines c.args.self.now) c.new.ensures.no_word c.new.ensures.same_pen (search rules)
    c.put_lines.ensures.put.1)

pub returns-in-Json-clause-put : goal.returns-in-Json-clause-put
returns-in-Json-clause-put g c = λ meaning is.
    rw c.in-Json.is
    (g.met.P.Pen.puts_in_turn _ _ _ _ (10 ∷ [])
    (value_put g.P.Pen.puts _ _ _ _ _ (meaning_object meaning) c.new-in-Json.ensures.no_comma c.new-in-Json.ensures.same_pen (search rules)
    (subst (λ tokens. g.P.Pen.puts c.new-in-Json.result.pen.now (tokens_text json_writing c.new-in-Json.result.needs_comma tokens)
    c.put_object.new.json.pen.now) is.tokens c.put_object.ensures.1))
    c.put.ensures)
