use Rattle.std.proofs.Common.{append-nil, refl, subst, sym}
use Rattle.bi_common.specs.LineTokens.{NextField, line_token_text, one_field}
use Rattle.bi_common.specs.MadeFields.{field_of}
use Rattle.bi_describe.proofs.describe.deep_pen.DeepWriterLinePen.put_word.Goals as goal

pub returns : goal.returns
unfolding one_field
returns g c =
    let pen = c.args.self.now in (
      refl,
      subst (λ text. g.P.Pen.puts pen.pen.now text c.put_next.new.pen)
          (sym (append-nil (line_token_text pen.has_word (NextField (field_of c.args.word))))) c.put_next.ensures,
      c.has_word_after-self.ensures,
    )
