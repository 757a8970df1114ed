use Rattle.bi_labels.proofs.labelled_text.put_line.Goals as goal

pub returns-in-Lines : goal.returns-in-Lines
returns-in-Lines g c =
    let then = g.met.P.Pen.puts_in_turn in
    rw c.in-Lines.is
    (then _ _ _ _ _ c.put_field.ensures
    (then _ _ _ _ _ c.put.ensures (then _ _ _ _ _ c.put-in-Lines.ensures c.put-in-Lines-2.ensures)))

pub returns-in-Json : goal.returns-in-Json
returns-in-Json g c =
    let then = g.met.P.Pen.puts_in_turn in
    rw c.in-Json.is
    (then _ _ _ _ _ c.put-in-Json.ensures
    (then _ _ _ _ _ c.put_string.ensures
    (then _ _ _ _ _ c.put-in-Json-2.ensures (then _ _ _ _ _ c.put-in-Json-3.ensures c.put-in-Json-4.ensures))))
