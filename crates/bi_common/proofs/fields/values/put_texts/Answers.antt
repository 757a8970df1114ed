use Rattle.std.proofs.Common.{◌∷◌, []}
use Rattle.bi_common.proofs.fields.values.put_texts.Goals as goal

pub returns : goal.returns
returns g c =
    let then = g.met.P.Pen.puts_in_turn in
    then _ _ _ (34 ∷ []) _ c.put.ensures (then _ _ _ _ (34 ∷ []) c.put_quoted_bytes.ensures c.put-2.ensures)
