use Rattle.std.proofs.Common.{append-nil, refl, subst, sym}
use Rattle.bi_common.specs.LineTokens.{NextField, line_token_text, one_field}
use Rattle.bi_common.specs.Lines.{Text}
use Rattle.bi_common.specs.MadeFields.{bytes_of_names}
use Rattle.bi_describe.specs.IgnoredWords.{inside_path}
use Rattle.bi_describe.proofs.describe.deep_pen.DeepWriterDeepPen.put_path_inside.Goals as goal

pub returns : goal.returns
unfolding one_field
returns g c =
    let pen = c.args.self.now in (
      refl,
      subst (λ text. g.P.Pen.puts pen.pen.now text c.put_next_path.new.pen)
          (sym (append-nil (line_token_text pen.has_word
          (NextField (Text (inside_path c.args.payload.now (bytes_of_names c.args.names.now))))))) c.put_next_path.ensures,
      refl,
    )
