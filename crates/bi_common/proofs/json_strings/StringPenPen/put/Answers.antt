use Rattle.std.proofs.Common.{refl, subst, sym, ◌∙◌}
use Rattle.bi_common.proofs.StringBytes.{plain_bytes}
use Rattle.bi_common.proofs.json_strings.StringPenPen.put.Goals as goal

pub returns-then-are_plain : goal.returns-then-are_plain
returns-then-are_plain g c = (
  refl,
  subst (λ bytes. g.P.Pen.puts c.args.self.now.pen.now bytes c.put.new.self)
      (sym (plain_bytes c.args.bytes.now (sym c.are_plain.ensures ∙ c.if-are_plain.true))) c.put.ensures,
)
