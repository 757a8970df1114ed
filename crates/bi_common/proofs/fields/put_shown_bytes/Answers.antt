use Rattle.std.proofs.Common.{subst, sym, ◌∙◌}
use Rattle.bi_common.proofs.UnchangedBytes.{plain_name}
use Rattle.bi_common.proofs.fields.put_shown_bytes.Goals as goal

pub returns-then-are_plain : goal.returns-then-are_plain
returns-then-are_plain g c =
    subst (λ bytes. g.P.Pen.puts c.args.pen.now bytes c.put.new.self)
    (sym (plain_name c.args.name.now (sym c.are_plain.ensures ∙ c.if-are_plain.true))) c.put.ensures
