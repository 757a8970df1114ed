use Rattle.bi_edit.specs.Edits.{LacksPart, edited_legacy, in_edit_order}
use Rattle.bi_edit.proofs.AppliedEdits.{HasSameEnd, edits_from}
use Rattle.bi_edit.proofs.edited_legacy.LegacyContent.apply.Given as goal

abbrev pub invariant-loop-turn : goal.invariant-loop-turn
invariant-loop-turn l =
    HasSameEnd LacksPart edited_legacy l.self (edits_from l.turn l.edits) l.initial.self (in_edit_order l.edits)
