use Rattle.std.proofs.Common.{Err, Ok, refl, ap, subst, ◌∙◌, arith}
use Rattle.std.proofs.lemmas.Result.{err_from_is_err_and}
use Rattle.bi_base.specs.Commands.{WasRefused}
use Rattle.bi_norm.specs.Meaning.{OfLegacy}
use Rattle.bi_edit.proofs.EditedFiles.{legacy_not_edited, legacy_not_written, legacy_written, of_part_error, edits_out_of_memory}
use Rattle.bi_edit.specs.Applying.{IsApplyError}
use Rattle.bi_edit.specs.Edits.{AllHaveParts, IsFirstWithoutPart, in_edit_order, legacy_after}
use Rattle.bi_legacy.specs.Emitting.{WroteImage, image_of_parts}
use Rattle.bi_edit.proofs.EditedFiles.{form_of_legacy, has_form_of_legacy}
use Rattle.bi_edit.proofs.EditedFits.{of_kind_error}
use Rattle.bi_edit.proofs.editing.edit_legacy.Goals as goal

pub returns-in_err-check_legacy_kind-clause-failed : goal.returns-in_err-check_legacy_kind-clause-failed
returns-in_err-check_legacy_kind-clause-failed g c file opened =
    let p = err_from_is_err_and c.from_residual.result c.from_residual.ensures.1 in
    let form = form_of_legacy c.args.choice in
    rw (p.1, p.2) (WasRefused (legacy_not_edited c.args.edits.now c.args.choice c.args.limits file c.args.image.now opened form
    (has_form_of_legacy c.args.choice file c.args.image.now.image) _
    (of_kind_error c.args.limits form (OfLegacy c.args.image.now.image) c.args.edits.now c.in_err-check_legacy_kind.field-0.0
    c.in_err-check_legacy_kind.ensures.failed)) refl)

pub returns-in_err-content-clause-failed : goal.returns-in_err-content-clause-failed
returns-in_err-content-clause-failed g c file opened =
    let p = err_from_is_err_and c.from_residual-in_err-content.result c.from_residual-in_err-content.ensures.1 in
    rw (p.1, p.2) (WasRefused (edits_out_of_memory c.args.edits.now c.args.choice c.args.limits file (OfLegacy c.args.image.now.image)
    opened.means) refl)

pub returns-in_err-apply-clause-failed : goal.returns-in_err-apply-clause-failed
returns-in_err-apply-clause-failed g c file opened =
    let p = err_from_is_err_and c.from_residual-in_err-apply.result c.from_residual-in_err-apply.ensures.1 in
    let edits = c.args.edits.now in
    let error = c.in_err-apply.field-0.0 in
    rw (p.1, p.2) (WasRefused (of_part_error edits c.args.choice c.args.limits file c.args.image.now opened
    (form_of_legacy c.args.choice) (has_form_of_legacy c.args.choice file c.args.image.now.image) c.in_ok-check_legacy_kind.ensures.ok
    error
    (subst (λ image. IsApplyError (IsFirstWithoutPart image (in_edit_order edits)) edits error) c.in_ok-content.ensures
    c.in_err-apply.ensures.failed)) refl)

pub returns-in_err-emit-clause-failed : goal.returns-in_err-emit-clause-failed
returns-in_err-emit-clause-failed g c file opened =
    let p = err_from_is_err_and c.from_residual-in_err-emit.result c.from_residual-in_err-emit.ensures.1 in
    let edits = c.args.edits.now in
    let same = ap (image_of_parts c.content.inside.fields) c.deref.ensures.value ∙ c.content.view_is ∙ c.in_ok-apply.ensures.edited
    ∙ ap (λ image. legacy_after image (in_edit_order edits)) c.in_ok-content.ensures in
    rw (p.1, p.2) (legacy_not_written edits c.args.choice c.args.limits file c.args.image.now opened (form_of_legacy c.args.choice)
    (has_form_of_legacy c.args.choice file c.args.image.now.image) c.in_ok-check_legacy_kind.ensures.ok
    (subst (λ image. AllHaveParts image (in_edit_order edits)) c.in_ok-content.ensures c.in_ok-apply.ensures.found)
    g.S.Sink.appends g.S.Sink.fails c.args.sink.now c.emit.new.sink c.in_err-emit.field-0.0 c.know_edits.ensures
    (omega (arith, c.know_limits.ensures.1))
    (subst (λ image. WroteImage g.S.Sink.appends g.S.Sink.fails c.args.limits image c.args.sink.now (Err c.in_err-emit.field-0.0)
    c.emit.new.sink) same c.in_err-emit.ensures))

pub returns-clause-appended : goal.returns-clause-appended
returns-clause-appended g c file opened =
    let edits = c.args.edits.now in
    let same = ap (image_of_parts c.content.inside.fields) c.deref.ensures.value ∙ c.content.view_is ∙ c.in_ok-apply.ensures.edited
    ∙ ap (λ image. legacy_after image (in_edit_order edits)) c.in_ok-content.ensures in
    legacy_written edits c.args.choice c.args.limits file c.args.image.now opened (form_of_legacy c.args.choice)
    (has_form_of_legacy c.args.choice file c.args.image.now.image) c.in_ok-check_legacy_kind.ensures.ok
    (subst (λ image. AllHaveParts image (in_edit_order edits)) c.in_ok-content.ensures c.in_ok-apply.ensures.found)
    g.S.Sink.appends g.S.Sink.fails c.args.sink.now c.emit.new.sink c.default.result c.know_edits.ensures
    (omega (arith, c.know_limits.ensures.1))
    (record {
      signatures = c.default.ensures.0.0;
      kept = record { alignment = c.default.ensures.0.1.0; positions = c.default.ensures.0.1.1 };
      inside = c.default.ensures.1;
    })
    (subst (λ image. WroteImage g.S.Sink.appends g.S.Sink.fails c.args.limits image c.args.sink.now (Ok tt) c.emit.new.sink) same
    c.in_ok-emit.ensures)
