use Rattle.std.proofs.Common.{◌∷◌, ap, map, subst, sym, ◌∙◌}
use Rattle.bi_common.specs.LineTokens.{tokens_of_lines}
use Rattle.bi_describe.specs.DeepDescriptions.{inside_cpu_line, inside_lines, inside_reservation_line, line_inside}
use Rattle.bi_describe.specs.MadeInsides.{entries_inside}
use Rattle.bi_describe.specs.ReadDescription.{root_lines}
use Rattle.bi_describe.specs.TreeEntries.{as_entry}
use Rattle.bi_describe.proofs.InsideLines.{lines_with_nodes}
use Rattle.bi_describe.proofs.describe.inside.InsideTree.put_lines.Goals as goal

pub returns-in-Some-clause-put : goal.returns-in-Some-clause-put
returns-in-Some-clause-put g c payload tree holds =
    let puts = g.L.LinePen.puts in
    let self = c.args.self.now in
    let cpu = self.blob.cpu in
    let reservations = self.blob.reservations in
    let entries = map as_entry c.in-Some.nodes.entries.items in
    subst (λ payload. puts c.args.pen.now (tokens_of_lines (inside_lines payload tree)) c.put_lines.new.pen) holds.path
    (subst (λ tokens. puts c.args.pen.now tokens c.put_lines.new.pen)
    (lines_with_nodes self.path.items tree cpu reservations entries holds.cpu holds.reservations
    (sym (ap entries_inside c.in-Some.is) ∙ holds.entries))
    (g.met.L.LinePen.puts_in_turn _ _ _ _ _
    (subst (λ path. puts c.args.pen.now (tokens_of_lines (inside_cpu_line path cpu ∷ map (inside_reservation_line path) reservations))
    c.put_head.new.pen) c.deref.ensures.value c.put_head.ensures)
    (subst (λ path. puts c.put_head.new.pen (tokens_of_lines (map (line_inside path) (root_lines entries))) c.put_lines.new.pen)
    c.deref-in-Some.ensures.value c.put_lines.ensures.put)))
