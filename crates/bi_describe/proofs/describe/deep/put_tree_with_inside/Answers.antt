use Rattle.bi_describe.proofs.describe.deep.put_tree_with_inside.Goals as goal

pub returns-clause-put : goal.returns-clause-put
returns-clause-put g c trees held =
    g.met.L.LinePen.puts_in_turn _ _ _ _ _ c.put_node.ensures (c.put_entries_with_inside.ensures.put trees held)
