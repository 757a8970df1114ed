use Rattle.std.proofs.Common.{refl, subst}
use Rattle.std.proofs.lemmas.Result.{err_from_is_err_and}
use Rattle.bi_base.specs.Commands.{WasRefused}
use Rattle.bi_norm.specs.Reading.{IsReadBootImage}
use Rattle.bi_edit.proofs.EditedFiles.{error_of_read_file}
use Rattle.bi_edit.proofs.editing.edit_file_into.Goals as goal

pub returns-in_err-image-clause-failed : goal.returns-in_err-image-clause-failed
returns-in_err-image-clause-failed g c =
    let p = err_from_is_err_and c.from_residual.result c.from_residual.ensures.1 in
    rw (p.1, p.2) (WasRefused (error_of_read_file c.args.edits.now c.args.choice c.args.limits c.args.file.now c.in_err-image.field-0.0
    c.in_err-image.ensures.failed) refl)

pub edit_tree-requires : goal.edit_tree-requires
edit_tree-requires g c = (c.args.file.now, subst (IsReadBootImage c.args.limits c.args.file.now) c.in-Fit.is c.in_ok-image.ensures.read)

pub returns-in-Fit-clause-appended : goal.returns-in-Fit-clause-appended
returns-in-Fit-clause-appended g c =
    c.edit_tree.ensures.appended c.args.file.now
    (subst (IsReadBootImage c.args.limits c.args.file.now) c.in-Fit.is c.in_ok-image.ensures.read)

pub returns-in-Fit-clause-failed : goal.returns-in-Fit-clause-failed
returns-in-Fit-clause-failed g c =
    c.edit_tree.ensures.failed c.args.file.now
    (subst (IsReadBootImage c.args.limits c.args.file.now) c.in-Fit.is c.in_ok-image.ensures.read)
