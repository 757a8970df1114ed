use Rattle.bi_edit.specs.Edits.{FindsNothing, edited_root, in_edit_order}
use Rattle.bi_edit.proofs.AppliedEdits.{HasSameEnd, edits_from}
use Rattle.bi_edit.proofs.applying.apply.Given as goal

abbrev pub invariant-loop-turn : goal.invariant-loop-turn
invariant-loop-turn l =
    HasSameEnd FindsNothing edited_root l.tree (edits_from l.turn l.edits) l.initial.tree (in_edit_order l.edits)
