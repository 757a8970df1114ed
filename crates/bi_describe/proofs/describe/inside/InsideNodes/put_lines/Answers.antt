use Rattle.std.proofs.Common.{map, rules, subst}
use Rattle.bi_common.specs.LineTokens.{tokens_of_lines}
use Rattle.bi_describe.specs.InsidePens.{token_inside}
use Rattle.bi_describe.specs.ReadDescription.{root_lines}
use Rattle.bi_describe.specs.TreeEntries.{as_entry}
use Rattle.bi_describe.proofs.DeepFacts.{inside_put}
use Rattle.bi_describe.proofs.describe.inside.InsideNodes.put_lines.Goals as goal

pub returns-clause-put : goal.returns-clause-put
returns-clause-put g c =
    let puts = g.L.LinePen.puts in
    let inside = c.new-inside.result in
    inside_put puts _ _ _ _ _ _ (root_lines (map as_entry c.args.self.now.entries.items)) c.new-inside.ensures.payload
    c.new-inside.ensures.same_pen (search rules)
    (subst (λ entries. puts inside.pen.now
    (map (token_inside inside.payload.now) (tokens_of_lines (root_lines (map as_entry entries)))) c.put_tree.new.pen.pen.now)
    c.deref.ensures.value c.put_tree.ensures.put.put)
