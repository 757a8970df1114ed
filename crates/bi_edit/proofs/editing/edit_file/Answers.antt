use Rattle.std.proofs.lemmas.Result.{err_from_is_err_and}
use Rattle.bi_edit.proofs.EditedFiles.{edit_error_in_memory}
use Rattle.bi_edit.proofs.editing.edit_file.Goals as goal

pub returns-in_err-edit_file_into-clause-failed : goal.returns-in_err-edit_file_into-clause-failed
returns-in_err-edit_file_into-clause-failed c =
    let p = err_from_is_err_and c.from_residual.result c.from_residual.ensures.1 in
    rw (p.1, p.2)
    (edit_error_in_memory _ c.args.edits.now c.args.choice c.args.limits c.args.file.now _ _ c.in_err-edit_file_into.field-0.0
    (λ text cause failed. failed.1) c.in_err-edit_file_into.ensures.failed)
