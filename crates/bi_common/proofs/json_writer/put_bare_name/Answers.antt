use Rattle.std.proofs.Common.{◌∷◌, ◌++◌, [], subst}
use Rattle.bi_common.specs.Json.{string_text}
use Rattle.bi_common.proofs.json_writer.put_bare_name.Goals as goal

pub returns : goal.returns
returns g c =
    subst (λ name. g.P.Pen.puts c.args.pen.now (string_text name ++ 58 ∷ []) c.put.new.self) c.as_bytes.ensures.value
    (g.met.P.Pen.puts_in_turn _ _ _ _ (58 ∷ []) c.put_string.ensures c.put.ensures)
