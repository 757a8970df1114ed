use Rattle.bi_edit.specs.Edits.{FindsNothing, edited_root, before_digests}
use Rattle.bi_edit.proofs.AppliedEdits.{HasSameEnd, early_from}
use Rattle.bi_edit.proofs.applying.apply_before_digests.Given as goal

abbrev pub invariant-loop-turn : goal.invariant-loop-turn
invariant-loop-turn l =
    HasSameEnd FindsNothing edited_root l.tree (early_from l.turn l.edits) l.initial.tree (before_digests l.edits)
