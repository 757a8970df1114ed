use Rattle.std.proofs.Common.{[], ◌∷◌, ◌+◌, drop, subst, sym, ap, ◌∙◌, arith}
use Rattle.bi_edit.specs.Applying.{IsApplyError}
use Rattle.bi_edit.specs.Edits.{LacksPart, IsFirstWithoutPart, edited_legacy, edits_of_turn, turn_of}
use Rattle.bi_edit.proofs.AppliedEdits.{HasSameEnd, next_at, next_of_turn, error_of_edit, edit_read_at, refused_next, refused_of, same_turn}
use Rattle.bi_edit.proofs.edited_legacy.LegacyContent.apply_turn.Goals as goal

pub returns-in_err-apply_at-clause-failed : goal.returns-in_err-apply_at-clause-failed
returns-in_err-apply_at-clause-failed c =
    let edits = c.args.edits.now in
    let turn = c.args.turn in
    let index = c.loop-index.index in
    let edit = c.index-edits-index.result in
    let all = edits_of_turn turn edits in
    let later = edits_of_turn turn (drop (index + 1) edits) in
    let left = ap (edits_of_turn turn) (next_at edits index edit (omega (arith, c.loop-index-test.true)) c.index-edits-index.is)
    ∙ next_of_turn turn edit (drop (index + 1) edits) (same_turn (turn_of edit) turn (sym c.turn.ensures ∙ c.if-turn.true)) in
    error_of_edit (IsApplyError (IsFirstWithoutPart c.args.self.now all) edits)
    c.from_residual.result c.in_err-apply_at.field-0.0 c.from_residual.ensures.1
    (refused_of LacksPart edited_legacy c.loop-index.self c.args.self.now (edit ∷ []) later all edits c.in_err-apply_at.field-0.0
    (subst (λ more. HasSameEnd LacksPart edited_legacy c.loop-index.self more c.args.self.now all) left c.loop-index.invariant)
    (refused_next LacksPart edited_legacy c.loop-index.self edit edits index c.in_err-apply_at.field-0.0
    (edit_read_at edits index edit (omega (arith, c.loop-index-test.true)) c.index-edits-index.is)
    c.in_err-apply_at.ensures.failed))
