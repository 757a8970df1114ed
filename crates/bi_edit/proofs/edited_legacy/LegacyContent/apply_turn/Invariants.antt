use Rattle.std.proofs.Common.{drop}
use Rattle.bi_edit.specs.Edits.{LacksPart, edited_legacy, edits_of_turn}
use Rattle.bi_edit.proofs.AppliedEdits.{HasSameEnd}
use Rattle.bi_edit.proofs.edited_legacy.LegacyContent.apply_turn.Given as goal

abbrev pub invariant-loop-index : goal.invariant-loop-index
invariant-loop-index l =
    HasSameEnd LacksPart edited_legacy l.self (edits_of_turn l.turn (drop l.index l.edits)) l.initial.self
    (edits_of_turn l.turn l.edits)
