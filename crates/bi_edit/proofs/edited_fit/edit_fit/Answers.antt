use Rattle.std.proofs.Common.{sym, ap, subst, ◌∙◌}
use Rattle.bi_base.specs.declared.fault.Error.TheVariants.{Refused}
use Rattle.bi_base.specs.Errors.{IsFaultOrNoMemory}
use Rattle.bi_fdt.specs.Content.{Blob}
use Rattle.bi_fit.specs.declared.form.Form.TheVariants.{Embedded}
use Rattle.bi_fit.specs.Content.{tree_of}
use Rattle.bi_norm.specs.Meaning.{OfFit}
use Rattle.bi_plain.specs.PlainText.{HasPlainText, IsPlainTextFault, plain_text}
use Rattle.bi_edit.specs.declared.edit_error.EditError.TheVariants.{Failed}
use Rattle.bi_edit.specs.Applying.{IsApplyError}
use Rattle.bi_edit.specs.EditedFits.{edit_error_of}
use Rattle.bi_edit.specs.EditRefusals.{IsEditError, OfDepth}
use Rattle.bi_edit.specs.Edits.{AllFind, IsFirstRefused, before_digests, root_after}
use Rattle.bi_edit.proofs.EditedFits.{edit_error_passed_on, edited_text, edited_tree_has_text, of_apply_error, of_digests_error}
use Rattle.bi_edit.proofs.EditedFits.{of_kind_error, of_long_payloads, of_write_error}
use Rattle.bi_edit.proofs.edited_fit.edit_fit.Goals as goal

pub returns-in_err-check_tree_kind-clause-failed : goal.returns-in_err-check_tree_kind-clause-failed
returns-in_err-check_tree_kind-clause-failed c =
    let tree = tree_of c.args.fit.now in
    edit_error_passed_on c.from_residual.result c.in_err-check_tree_kind.field-0.0
    (IsEditError c.args.limits Embedded (OfFit tree) c.args.edits.now) c.from_residual.ensures.1
    (of_kind_error c.args.limits Embedded (OfFit tree) c.args.edits.now c.in_err-check_tree_kind.field-0.0
    c.in_err-check_tree_kind.ensures.failed)

pub returns-in_err-check_depths-clause-failed : goal.returns-in_err-check_depths-clause-failed
returns-in_err-check_depths-clause-failed c =
    let tree = tree_of c.args.fit.now in
    let fault = c.in_err-check_depths.field-0.0 in
    edit_error_passed_on c.from_residual-in_err-check_depths.result (Failed (Refused fault))
    (IsEditError c.args.limits Embedded (OfFit tree) c.args.edits.now) c.from_residual-in_err-check_depths.ensures.1
    (OfDepth c.in_ok-check_tree_kind.ensures.ok c.in_err-check_depths.ensures.fault.1 c.in_err-check_depths.ensures.fault.0)

pub returns-in_err-apply_before_digests-clause-failed : goal.returns-in_err-apply_before_digests-clause-failed
returns-in_err-apply_before_digests-clause-failed c =
    let tree = tree_of c.args.fit.now in
    let edits = c.args.edits.now in
    let error = c.in_err-apply_before_digests.field-0.0 in
    edit_error_passed_on c.from_residual-in_err-apply_before_digests.result (edit_error_of error)
    (IsEditError c.args.limits Embedded (OfFit tree) edits) c.from_residual-in_err-apply_before_digests.ensures.1
    (of_apply_error c.args.limits c.args.fit.now edits c.requires c.know_limits.ensures c.know_edits.ensures
    c.in_ok-check_tree_kind.ensures.ok c.in_ok-check_depths.ensures.ok error
    (subst (λ first. IsApplyError (IsFirstRefused first (before_digests edits)) edits error) c.in_ok-tree.ensures
    c.in_err-apply_before_digests.ensures.failed))

pub returns-in_err-check_payloads-clause-failed : goal.returns-in_err-check_payloads-clause-failed
returns-in_err-check_payloads-clause-failed c =
    let tree = tree_of c.args.fit.now in
    let edits = c.args.edits.now in
    let fault = c.in_err-check_payloads.field-0.0 in
    edit_error_passed_on c.from_residual-in_err-check_payloads.result (Failed (Refused fault))
    (IsEditError c.args.limits Embedded (OfFit tree) edits) c.from_residual-in_err-check_payloads.ensures.1
    (of_long_payloads c.args.limits c.args.fit.now edits c.requires c.know_limits.ensures c.know_edits.ensures
    c.in_ok-check_tree_kind.ensures.ok c.in_ok-check_depths.ensures.ok c.apply_before_digests.new.tree
    (c.in_ok-apply_before_digests.ensures.edited ∙ ap (λ first. root_after first (before_digests edits)) c.in_ok-tree.ensures)
    (subst (λ first. AllFind first (before_digests edits)) c.in_ok-tree.ensures c.in_ok-apply_before_digests.ensures.found)
    fault c.in_err-check_payloads.ensures.fault.0 c.in_err-check_payloads.ensures.fault.1)

pub returns-in_err-apply_digests-clause-failed : goal.returns-in_err-apply_digests-clause-failed
returns-in_err-apply_digests-clause-failed c =
    let tree = tree_of c.args.fit.now in
    let edits = c.args.edits.now in
    let error = c.in_err-apply_digests.field-0.0 in
    edit_error_passed_on c.from_residual-in_err-apply_digests.result (edit_error_of error)
    (IsEditError c.args.limits Embedded (OfFit tree) edits) c.from_residual-in_err-apply_digests.ensures.1
    (of_digests_error c.args.limits c.args.fit.now edits c.requires c.know_limits.ensures c.know_edits.ensures
    c.in_ok-check_tree_kind.ensures.ok c.in_ok-check_depths.ensures.ok c.apply_before_digests.new.tree error
    c.in_err-apply_digests.ensures.failed)

pub write_plain_tree-requires : goal.write_plain_tree-requires
write_plain_tree-requires c =
    let tree = tree_of c.args.fit.now in
    let edits = c.args.edits.now in
    let has = edited_tree_has_text c.args.limits c.args.fit.now edits c.requires c.know_limits.ensures c.know_edits.ensures
    c.in_ok-check_tree_kind.ensures.ok c.in_ok-check_depths.ensures.ok c.apply_before_digests.new.tree
    (c.in_ok-apply_before_digests.ensures.edited ∙ ap (λ first. root_after first (before_digests edits)) c.in_ok-tree.ensures) in
    subst (λ (blob : Blob). HasPlainText blob.cpu blob.reservations c.apply_digests.new.tree) (sym c.blob.ensures)
    (subst (λ root. HasPlainText tree.cpu tree.reservations root) (sym c.in_ok-apply_digests.ensures.edited) has)

pub returns-in_err-write_plain_tree-clause-failed : goal.returns-in_err-write_plain_tree-clause-failed
returns-in_err-write_plain_tree-clause-failed c =
    let tree = tree_of c.args.fit.now in
    let edits = c.args.edits.now in
    let failure = c.in_err-write_plain_tree.field-0.0 in
    let faults = subst (λ root. IsFaultOrNoMemory (IsPlainTextFault c.args.limits tree.cpu tree.reservations root) failure)
    c.in_ok-apply_digests.ensures.edited
    (subst (λ (blob : Blob). IsFaultOrNoMemory (IsPlainTextFault c.args.limits blob.cpu blob.reservations c.apply_digests.new.tree)
    failure) c.blob.ensures c.in_err-write_plain_tree.ensures.failed) in
    edit_error_passed_on c.from_residual-in_err-write_plain_tree.result (Failed failure)
    (IsEditError c.args.limits Embedded (OfFit tree) edits) c.from_residual-in_err-write_plain_tree.ensures.1
    (of_write_error c.args.limits c.args.fit.now edits c.requires c.know_limits.ensures c.know_edits.ensures
    c.in_ok-check_tree_kind.ensures.ok c.in_ok-check_depths.ensures.ok c.apply_before_digests.new.tree
    (c.in_ok-apply_before_digests.ensures.edited ∙ ap (λ first. root_after first (before_digests edits)) c.in_ok-tree.ensures)
    (subst (λ first. AllFind first (before_digests edits)) c.in_ok-tree.ensures c.in_ok-apply_before_digests.ensures.found)
    failure faults)

pub returns-clause-edited : goal.returns-clause-edited
returns-clause-edited c =
    let tree = tree_of c.args.fit.now in
    let edits = c.args.edits.now in
    let is_text = c.in_ok-write_plain_tree.ensures.text
    ∙ ap (λ (blob : Blob). plain_text blob.cpu blob.reservations c.apply_digests.new.tree) c.blob.ensures
    ∙ ap (plain_text tree.cpu tree.reservations) c.in_ok-apply_digests.ensures.edited in
    edited_text c.args.limits c.args.fit.now edits c.requires c.know_limits.ensures c.know_edits.ensures
    c.in_ok-check_tree_kind.ensures.ok c.in_ok-check_depths.ensures.ok c.apply_before_digests.new.tree
    (c.in_ok-apply_before_digests.ensures.edited ∙ ap (λ first. root_after first (before_digests edits)) c.in_ok-tree.ensures)
    (subst (λ first. AllFind first (before_digests edits)) c.in_ok-tree.ensures c.in_ok-apply_before_digests.ensures.found)
    c.in_ok-check_payloads.ensures.ok c.in_ok-write_plain_tree.field-0.items is_text c.in_ok-write_plain_tree.ensures.short
