use Rattle.std.proofs.Common.{drop}
use Rattle.bi_edit.specs.Edits.{FindsNothing, edited_root, edits_of_turn}
use Rattle.bi_edit.proofs.AppliedEdits.{HasSameEnd}
use Rattle.bi_edit.proofs.applying.apply_turn.Given as goal

abbrev pub invariant-loop-index : goal.invariant-loop-index
invariant-loop-index l =
    HasSameEnd FindsNothing edited_root l.tree (edits_of_turn l.turn (drop l.index l.edits)) l.initial.tree
    (edits_of_turn l.turn l.edits)
