use Rattle.bi_describe.proofs.describe.json.put_properties_begin.Goals as goal

pub returns : goal.returns
returns g c = g.met.J.JsonPen.puts_in_turn _ _ _ _ _ c.put.ensures c.put-2.ensures
