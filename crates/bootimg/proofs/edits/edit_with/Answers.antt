use Rattle.std.proofs.Common.{refl, subst₂}
use Rattle.std.proofs.lemmas.Result.{err_from_is_err_and}
use Rattle.bi_base.specs.Commands.{CommandFailed}
use Rattle.bi_base.specs.Writing.{WriteOrFlushStopped}
use Rattle.bi_edit.specs.declared.edit_error.EditError.TheVariants.{Failed}
use Rattle.bi_edit.specs.EditedFiles.{IsEdited, IsEditFileError, IsEditOutput}
use Rattle.bootimg.specs.EditedImages.{IsFailureOfEditing, contents_of}
use Rattle.bootimg.specs.Runs.{NoRoomForEdits, WroteEdited}
use Rattle.bootimg.proofs.EditRuns.{edit_failed}
use Rattle.bootimg.proofs.edits.edit_with.Goals as goal

pub returns-in_err-edits : goal.returns-in_err-edits
returns-in_err-edits g c old new =
    let p = err_from_is_err_and c.from_residual.result c.from_residual.ensures.1 in
    rw (p.1, p.2) (NoRoomForEdits (record { nothing_written = refl; outcome = refl }))

pub returns-in-Ok : goal.returns-in-Ok
returns-in-Ok g c old new =
    let made = c.in_ok-edits.ensures in
    let written = c.in-Ok.ensures.written in
    WroteEdited c.in_ok-edits.edits.items (record { given = made.0; are = made.1; are_given = made.2 }) c.in-Ok.notes written.0
    (subst₂ (λ edits file. IsEditOutput edits c.args.plan.choice c.args.limits c.in-Ok.notes file written.0) c.deref.ensures.value
    c.image_at-file.ensures written.1)
    written.2 c.with_notes.result c.with_notes.ensures refl

pub returns : goal.returns
returns g c old new =
    let made = c.in_ok-edits.ensures in
    let choice = c.args.plan.choice in
    let limits = c.args.limits in
    let target = g.T.TracedWrite.trace c.args.output.now in
    let new_target = g.T.TracedWrite.trace c.run_editor.new.output in
    edit_failed c.args.plan limits c.args.image.now (contents_of c.args.contents.now) _ c.in_ok-edits.edits.items c.in-Err.error
    c.failure_of.result (record { given = made.0; are = made.1; are_given = made.2 })
    (subst₂ (λ edits file. CommandFailed WriteOrFlushStopped (λ cause. Failed cause) (IsEdited edits choice limits file)
    (IsEditFileError edits choice limits file) target new_target c.in-Err.error) c.deref.ensures.value c.image_at-file.ensures
    c.in-Err.ensures.failed)
    (subst₂ (λ words file. IsFailureOfEditing words file c.in-Err.error c.failure_of.result) c.deref-in-Err.ensures.value
    c.image_at-file.ensures c.failure_of.ensures)
    c.job_failed.ensures
