use Rattle.std.proofs.Common.{◌+◌, ◌++◌, subst, sym, arith}
use Rattle.bi_edit.specs.Applying.{IsApplyError}
use Rattle.bi_edit.specs.Edits.{FindsNothing, IsFirstRefused, edited_root, in_edit_order, edits_of_turn}
use Rattle.bi_edit.proofs.AppliedEdits.{HasSameEnd, continues_after, edits_from, edits_from_next, error_of_edit, refused_of}
use Rattle.bi_edit.proofs.applying.apply.Goals as goal
use Rattle.bi_edit.proofs.applying.apply.Goals.{After-apply_turn}

-- The edits of the next turn and of those after it are left.
continues_next : (c : After-apply_turn) →
    HasSameEnd FindsNothing edited_root c.loop-turn.tree
    (edits_of_turn c.loop-turn.turn c.args.edits.now ++ edits_from (c.loop-turn.turn + 1) c.args.edits.now)
    c.args.tree.now (in_edit_order c.args.edits.now)
continues_next c =
    subst (λ left. HasSameEnd FindsNothing edited_root c.loop-turn.tree left c.args.tree.now (in_edit_order c.args.edits.now))
    (edits_from_next c.loop-turn.turn c.args.edits.now (omega (arith, c.loop-turn-test.true)))
    c.loop-turn.invariant

pub returns-in_err-apply_turn-clause-failed : goal.returns-in_err-apply_turn-clause-failed
returns-in_err-apply_turn-clause-failed c =
    let edits = c.args.edits.now in
    let turn = c.loop-turn.turn in
    error_of_edit (IsApplyError (IsFirstRefused c.args.tree.now (in_edit_order edits)) edits)
    c.from_residual.result c.in_err-apply_turn.field-0.0 c.from_residual.ensures.1
    (refused_of FindsNothing edited_root c.loop-turn.tree c.args.tree.now
    (edits_of_turn turn edits) (edits_from (turn + 1) edits) (in_edit_order edits)
    edits c.in_err-apply_turn.field-0.0
    (continues_next (goal.at.returns-in_err-apply_turn-clause-failed c).After-apply_turn)
    c.in_err-apply_turn.ensures.failed)

pub loop-turn-preserved : goal.loop-turn-preserved
loop-turn-preserved c =
    let edits = c.args.edits.now in
    let turn = c.loop-turn.turn in
    subst (λ made. HasSameEnd FindsNothing edited_root made (edits_from (turn + 1) edits) c.args.tree.now (in_edit_order edits))
    (sym c.in_ok-apply_turn.ensures.edited)
    (continues_after FindsNothing edited_root c.loop-turn.tree c.args.tree.now (edits_of_turn turn edits) (edits_from (turn + 1) edits)
    (in_edit_order edits) (continues_next (goal.at.loop-turn-preserved c).After-apply_turn) c.in_ok-apply_turn.ensures.found)
