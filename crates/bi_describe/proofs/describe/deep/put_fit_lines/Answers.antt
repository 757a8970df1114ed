use Rattle.std.proofs.Common.{◌++◌, List, ap, map, subst, sym, ◌∙◌}
use Rattle.bi_common.specs.CommonLines.{reservation_line}
use Rattle.bi_common.specs.LineTokens.{tokens_of_lines}
use Rattle.bi_common.specs.Lines.{Line}
use Rattle.bi_describe.specs.DeepDescriptions.{insides_shown, lines_with_inside}
use Rattle.bi_describe.specs.Descriptions.{head_lines}
use Rattle.bi_describe.specs.MadeInsides.{whole_devicetrees}
use Rattle.bi_describe.specs.ReadDescription.{root_lines}
use Rattle.bi_describe.specs.TreeEntries.{as_entry}
use Rattle.bi_describe.proofs.DeepLines.{tree_apart}
use Rattle.bi_describe.proofs.TreeLines.{lines_of_tree}
use Rattle.bi_describe.proofs.describe.deep.put_fit_lines.Goals as goal

pub returns-clause-put : goal.returns-clause-put
returns-clause-put g c = λ tree trees holds held.
    let puts = g.L.LinePen.puts in
    let then = g.met.L.LinePen.puts_in_turn in
    let fit = c.args.fit.now in
    let shown = insides_shown trees in
    subst (λ tokens. puts c.args.pen.now tokens c.put_tree_with_inside.new.pen)
    (sym (tree_apart shown fit.blob.now.cpu fit.blob.now.reservations (root_lines (map as_entry fit.entries.items)))
    ∙ (λ i. tokens_of_lines (lines_with_inside shown
    (head_lines (holds.cpu i) ++ (map reservation_line (holds.reservations i) ++ root_lines (holds.entries i)))))
    ∙ ap (λ (lines : List Line). tokens_of_lines (lines_with_inside shown
    (head_lines tree.cpu ++ (map reservation_line tree.reservations ++ lines)))) (lines_of_tree tree))
    (then _ _ _ _ _ (subst (λ cpu. puts c.args.pen.now (tokens_of_lines (head_lines cpu)) c.put_head.new.pen)
    c.boot_cpu.ensures c.put_head.ensures)
    (then _ _ _ _ _ c.put_reservation_lines.ensures
    (subst (λ entries. puts c.put_reservation_lines.new.pen (tokens_of_lines (lines_with_inside shown (root_lines (map as_entry entries))))
    c.put_tree_with_inside.new.pen) c.deref.ensures.value
    (c.put_tree_with_inside.ensures.put (whole_devicetrees trees) held))))
