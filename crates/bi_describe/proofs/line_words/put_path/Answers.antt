use Rattle.bi_describe.proofs.line_words.put_path.Goals as goal

pub returns : goal.returns
returns g c =
    let then = g.met.P.Pen.puts_in_turn in
    then _ _ _ _ _ c.put.ensures (then _ _ _ _ _ c.put-2.ensures c.put_field.ensures)
