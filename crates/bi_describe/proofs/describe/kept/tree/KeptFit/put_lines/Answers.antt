use Rattle.std.proofs.Common.{Some, map, ap, subst, sym, ◌∙◌}
use Rattle.std.specs.Option.{option_map}
use Rattle.bi_common.specs.LineTokens.{tokens_of_lines}
use Rattle.bi_describe.specs.Descriptions.{head_lines}
use Rattle.bi_describe.specs.ReadDescription.{root_lines}
use Rattle.bi_describe.specs.TreeEntries.{as_entry}
use Rattle.bi_describe.proofs.TreeLines.{lines_in_parts, reduced_lines_are}
use Rattle.bi_describe.proofs.describe.kept.tree.KeptFit.put_lines.Goals as goal

pub returns-in_ok-put_entries-in-Some : goal.returns-in_ok-put_entries-in-Some
returns-in_ok-put_entries-in-Some g c = λ tree is.
    let puts = g.L.LinePen.puts in
    let then = g.met.L.LinePen.puts_in_turn in
    let fit = c.args.self.now in
    let entries = map as_entry c.in-Some.entries.items in
    subst (λ tokens. puts c.args.pen.now tokens c.put_entries.new.pen)
    (sym (lines_in_parts fit.blob.now entries)
    ∙ ap tokens_of_lines (reduced_lines_are tree fit.blob.now entries is.cpu is.reservations
    (sym (ap (option_map (λ entries. map as_entry entries.items)) c.in-Some.is) ∙ is.entries)))
    (then _ _ _ _ _ (subst (λ cpu. puts c.args.pen.now (tokens_of_lines
    (head_lines cpu)) c.put_head.new.pen) c.boot_cpu.ensures c.put_head.ensures)
    (then _ _ _ _ _ c.put_reservation_lines.ensures
    (subst (λ entries. puts c.put_reservation_lines.new.pen (tokens_of_lines (root_lines (map as_entry entries))) c.put_entries.new.pen)
    c.deref.ensures.value c.in_ok-put_entries-in-Some.ensures)))
