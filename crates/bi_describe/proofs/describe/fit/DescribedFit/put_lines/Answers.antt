use Rattle.std.proofs.Common.{map, subst, sym}
use Rattle.bi_common.specs.LineTokens.{tokens_of_lines}
use Rattle.bi_describe.specs.Descriptions.{head_lines}
use Rattle.bi_describe.specs.ReadDescription.{root_lines}
use Rattle.bi_describe.specs.TreeEntries.{as_entry}
use Rattle.bi_describe.proofs.TreeLines.{lines_in_parts}
use Rattle.bi_describe.proofs.describe.fit.DescribedFit.put_lines.Goals as goal

pub returns-clause-put : goal.returns-clause-put
returns-clause-put g c =
    let puts = g.L.LinePen.puts in
    let then = g.met.L.LinePen.puts_in_turn in
    let described = c.args.self.now in
    subst (λ tokens. puts c.args.pen.now tokens c.put_tree.new.pen)
    (sym (lines_in_parts described.blob.now (map as_entry described.entries.items)))
    (then _ _ _ _ _ (subst (λ cpu. puts c.args.pen.now (tokens_of_lines
    (head_lines cpu)) c.put_head.new.pen) c.boot_cpu.ensures c.put_head.ensures)
    (then _ _ _ _ _ c.put_reservation_lines.ensures
    (subst (λ entries. puts c.put_reservation_lines.new.pen (tokens_of_lines (root_lines (map as_entry entries))) c.put_tree.new.pen)
    c.deref.ensures.value c.put_tree.ensures.put)))
