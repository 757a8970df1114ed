use Rattle.std.proofs.Common.{ap, sym, ◌∙◌, max, set, arith, Vec, ℕ}
use Rattle.std.specs.declared.alloc.Global.{Global}
use Rattle.bi_show.proofs.TableFacts.{widths_with_cell, widths_with_new_cell}
use Rattle.bi_show.proofs.show.tables.widen.Goals as goal
use Rattle.bi_show.proofs.show.tables.widen.Goals.{then-column-len, else-column-len+in_ok-push}

pub loop-column-preserved : goal.loop-column-preserved
loop-column-preserved c =
    let current = c.loop-column.widths in
    let column = c.loop-column.column in
    let cell = c.index-row-column.result in
    elim c.if-column-len.branch [
      | then-column-len w ↦
          ap (λ (v : Vec ℕ Global). v.items) w.widths-is
          ∙ ap (set current.items column) (w.max.ensures ∙ ap (λ n. max n w.len-then-column-len.result) w.index.ensures)
          ∙ widths_with_cell c.args.widths.now.items current.items c.args.row.now column cell
          w.len-then-column-len.result w.index.result.now (omega arith)
          (sym c.index-row-column.is) (w.len-then-column-len.ensures ∙ cell.bytes.ok.0)
          c.loop-column.invariant (omega (arith, current.ok.0))
      | else-column-len+in_ok-push w ↦
          ap (λ (v : Vec ℕ Global). v.items) w.widths-is
          ∙ w.in_ok-push.ensures.items
          ∙ widths_with_new_cell c.args.widths.now.items current.items c.args.row.now column cell
          w.len-else-column-len.result (omega arith)
          (sym c.index-row-column.is) (w.len-else-column-len.ensures ∙ cell.bytes.ok.0)
          c.loop-column.invariant (omega (arith, current.ok.0))
    ]
