use Rattle.std.proofs.Common.{◌∷◌, []}
use Rattle.bi_common.proofs.fields.put_step.Goals as goal

pub returns : goal.returns
returns g c = g.met.P.Pen.puts_in_turn _ _ _ (47 ∷ []) _ c.put.ensures c.put_shown.ensures
