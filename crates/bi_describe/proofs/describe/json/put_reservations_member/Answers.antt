use Rattle.bi_describe.proofs.describe.json.put_reservations_member.Goals as goal

pub returns : goal.returns
returns g c =
    let then = g.met.J.JsonPen.puts_in_turn in
    then _ _ _ _ _ c.put.ensures
    (then _ _ _ _ _ (then _ _ _ _ _ c.put-2.ensures (then _ _ _ _ _ c.put_reservations.ensures c.put-3.ensures))
    (g.met.J.JsonPen.puts_nothing _))
