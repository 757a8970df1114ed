use Rattle.std.proofs.Common.{subst, sym, ◌∙◌}
use Rattle.bi_common.proofs.UnchangedBytes.{unescaped_texts}
use Rattle.bi_common.proofs.fields.values.put_quoted_bytes.Goals as goal

pub returns-then-are_unescaped : goal.returns-then-are_unescaped
returns-then-are_unescaped g c =
    subst (λ bytes. g.P.Pen.puts c.args.pen.now bytes c.put.new.self)
    (sym (unescaped_texts c.args.texts.now (sym c.are_unescaped.ensures ∙ c.if-are_unescaped.true))) c.put.ensures
