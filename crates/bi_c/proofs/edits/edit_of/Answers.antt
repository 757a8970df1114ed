use Rattle.std.proofs.Common.{sym, subst}
use Rattle.bi_edit.specs.EditWords.{IsRemovalWord}
use Rattle.bi_c.specs.EditCalls.{GivesPayload, IsSetting}
use Rattle.bi_c.specs.PieceBuilding.{bytes_of_piece}
use Rattle.bi_c.proofs.EditElements.{no_edit_by, no_payload_edit, no_removal_edit, no_setting_edit}
use Rattle.bi_c.proofs.edits.edit_of.Goals as goal

pub returns-in-0-clause-none : goal.returns-in-0-clause-none
returns-in-0-clause-none c =
    no_edit_by _ _ c.parse_removal.result
    (λ none. no_removal_edit c.args.input.now c.args.element.now c.in-0.is
    (λ edit is. none edit (subst (λ word. IsRemovalWord word edit) (sym c.bytes_inside-word.ensures) is)))
    c.parse_removal.ensures.none

pub returns-in-1-clause-none : goal.returns-in-1-clause-none
returns-in-1-clause-none c =
    no_edit_by _ _ c.setting.result
    (λ none. no_setting_edit c.args.input.now c.args.element.now c.in-1.is
    (λ edit is. none edit (subst (λ word. IsSetting word edit) (sym c.bytes_inside-word.ensures) is)))
    c.setting.ensures.none

pub returns-in-2-clause-none : goal.returns-in-2-clause-none
returns-in-2-clause-none c =
    no_edit_by _ _ c.new_payload.result
    (λ none. no_payload_edit c.args.input.now c.args.element.now c.in-2.is
    (λ edit is. none edit
    (subst (λ word. GivesPayload word c.bytes_inside.result.now edit) (sym c.bytes_inside-word.ensures)
    (subst (λ bytes. GivesPayload (bytes_of_piece c.args.input.now c.args.element.now.word) bytes edit) (sym c.bytes_inside.ensures) is))))
    c.new_payload.ensures.none

pub returns-in_default-clause-some : goal.returns-in_default-clause-some
returns-in_default-clause-some c = c.number_field.ensures c.args.input.now
