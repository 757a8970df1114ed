use Rattle.std.proofs.Common.{Some, map, ap, subst, sym, ◌∙◌}
use Rattle.std.specs.Option.{option_map}
use Rattle.bi_common.specs.LineTokens.{tokens_of_lines}
use Rattle.bi_describe.specs.DeepDescriptions.{lines_with_inside}
use Rattle.bi_describe.specs.Descriptions.{head_lines}
use Rattle.bi_describe.specs.MadeInsides.{shown_by}
use Rattle.bi_describe.specs.ReadDescription.{root_lines}
use Rattle.bi_describe.specs.TreeEntries.{as_entry}
use Rattle.bi_describe.proofs.DeepLines.{kept_head_lines, kept_tree_lines}
use Rattle.bi_describe.proofs.describe.kept.tree.KeptFit.put_deep_lines.Goals as goal

pub returns-in_ok-put_deep_entries-in-Some : goal.returns-in_ok-put_deep_entries-in-Some
returns-in_ok-put_deep_entries-in-Some g c = λ tree trees is held.
    let puts = g.L.LinePen.puts in
    let then = g.met.L.LinePen.puts_in_turn in
    let fit = c.args.self.now in
    let shown = shown_by trees c.args.opened.now in
    subst (λ tokens. puts c.args.pen.now tokens c.put_deep_entries.new.pen)
    (kept_tree_lines shown tree fit.blob.now (map as_entry c.in-Some.entries.items) is.cpu is.reservations
    (sym (ap (option_map (λ entries. map as_entry entries.items)) c.in-Some.is) ∙ is.entries))
    (then _ _ _ _ _ (subst (λ cpu. puts c.args.pen.now (tokens_of_lines
    (head_lines cpu)) c.put_head.new.pen) c.boot_cpu.ensures c.put_head.ensures)
    (then _ _ _ _ _ c.put_reservation_lines.ensures
    (subst (λ entries. puts c.put_reservation_lines.new.pen (tokens_of_lines (lines_with_inside shown (root_lines (map as_entry entries))))
    c.put_deep_entries.new.pen) c.deref.ensures.value (c.in_ok-put_deep_entries-in-Some.ensures trees held))))

pub returns-in-None : goal.returns-in-None
returns-in-None g c = λ tree trees is held.
    let puts = g.L.LinePen.puts in
    let fit = c.args.self.now in
    subst (λ tokens. puts c.args.pen.now tokens c.put_reservation_lines.new.pen)
    (kept_head_lines (shown_by trees c.args.opened.now) tree fit.blob.now.cpu fit.blob.now.reservations is.cpu is.reservations
    (sym (ap (option_map (λ entries. map as_entry entries.items)) c.in-None.is) ∙ is.entries))
    (g.met.L.LinePen.puts_in_turn _ _ _ _ _ (subst (λ cpu. puts c.args.pen.now (tokens_of_lines
    (head_lines cpu)) c.put_head.new.pen) c.boot_cpu.ensures c.put_head.ensures) c.put_reservation_lines.ensures)
