use Rattle.std.proofs.Common.{◌∷◌, []}
use Rattle.bi_common.proofs.fields.values.put_bytes.Goals as goal

pub returns : goal.returns
returns g c = g.met.P.Pen.puts_in_turn _ _ _ (48 ∷ 120 ∷ []) _ c.put.ensures c.put_digits.ensures
