use Rattle.std.proofs.Common.{[], ◌∷◌, List, append-nil, rules, subst, sym}
use Rattle.bi_common.specs.LineTokens.{LineToken, line_tokens, line_writing}
use Rattle.bi_common.specs.MadeFields.{field_of}
use Rattle.bi_common.specs.Tokens.{tokens_text}
use Rattle.bi_common.proofs.WrittenLines.{lines_put}
use Rattle.bi_values.proofs.outputs.put_word.Goals as goal

pub returns : goal.returns
returns g c =
    lines_put g.P.Pen.puts _ _ _ _ _ ((field_of c.args.word ∷ []) ∷ []) c.new.ensures.no_word c.new.ensures.same_pen (search rules)
    (subst (λ (tokens : List LineToken). g.P.Pen.puts c.new.result.pen.now (tokens_text line_writing c.new.result.has_word tokens)
    c.put_line.new.pen.pen.now) (sym (append-nil (line_tokens (field_of c.args.word ∷ [])))) c.put_line.ensures.1)
