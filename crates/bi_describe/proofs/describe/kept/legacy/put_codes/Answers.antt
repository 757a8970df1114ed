use Rattle.std.proofs.Common.{◌∷◌, [], List, ℕ, Option, codes, subst}
use Rattle.bi_common.specs.CommonLines.{named_field}
use Rattle.bi_common.specs.LineTokens.{line_tokens}
use Rattle.bi_common.specs.Lines.{Text}
use Rattle.bi_describe.proofs.describe.kept.legacy.put_codes.Goals as goal

pub returns : goal.returns
returns g c =
    let puts = g.L.LinePen.puts in
    let then = g.met.L.LinePen.puts_in_turn in
    then _ _ _ _ _ (subst (λ (name : Option (List ℕ)). puts c.args.pen.now (line_tokens
    (Text (codes "os") ∷ named_field name c.args.fields.os ∷ [])) c.put_code.new.pen) c.os_name.ensures c.put_code.ensures)
    (then _ _ _ _ _ (subst (λ (name : Option (List ℕ)). puts c.put_code.new.pen (line_tokens
    (Text (codes "arch") ∷ named_field name c.args.fields.arch ∷ [])) c.put_code-2.new.pen) c.arch_name.ensures c.put_code-2.ensures)
    (then _ _ _ _ _ (subst (λ (name : Option (List ℕ)). puts c.put_code-2.new.pen (line_tokens
    (Text (codes "type") ∷ named_field name c.args.fields.image_type ∷ [])) c.put_code-3.new.pen) c.type_name.ensures c.put_code-3.ensures)
    (then _ _ _ _ _ (subst (λ (name : Option (List ℕ)). puts c.put_code-3.new.pen (line_tokens
    (Text (codes "compression") ∷ named_field name c.args.fields.compression ∷ [])) c.put_code-4.new.pen)
    c.compression_name-compression.ensures c.put_code-4.ensures) (g.met.L.LinePen.puts_nothing _))))
