use Rattle.std.proofs.Common.{append-nil, refl, subst, sym}
use Rattle.bi_common.specs.JsonTokens.{one, token_text}
use Rattle.bi_common.specs.MadeFields.{json_token_of}
use Rattle.bi_common.proofs.json_writer.JsonWriterJsonPen.put.Goals as goal

pub returns : goal.returns
unfolding one
returns g c =
    let pen = c.args.self.now in (
      refl,
      subst (λ text. g.P.Pen.puts pen.pen.now text c.put_token.new.pen)
          (sym (append-nil (token_text pen.needs_comma (json_token_of c.args.token))))
          c.put_token.ensures,
      c.is_before_comma-self.ensures,
    )
