use Rattle.std.proofs.Common.{◌∷◌, []}
use Rattle.bi_common.proofs.fields.put_hexadecimal.Goals as goal

pub returns : goal.returns
returns g c =
    rw (← c.bytes_of_cell-bytes.ensures) (g.met.P.Pen.puts_in_turn _ _ _ (48 ∷ 120 ∷ []) _ c.put.ensures c.put_digits.ensures)
