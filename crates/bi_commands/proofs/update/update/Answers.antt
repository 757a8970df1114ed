use Rattle.std.proofs.lemmas.Result.{err_from_is_err_and}
use Rattle.bi_fit.proofs.AppendedTexts.{error_in_memory}
use Rattle.bi_commands.specs.UpdatedFiles.{IsUpdated, IsUpdateError}
use Rattle.bi_commands.proofs.UpdatedFiles.{updated_needs_memory}
use Rattle.bi_commands.proofs.update.update.Goals as goal

pub returns-in_err-update_into-clause-failed : goal.returns-in_err-update_into-clause-failed
returns-in_err-update_into-clause-failed c =
    let p = err_from_is_err_and c.from_residual.result c.from_residual.ensures.1 in
    let changes = c.args.changes in
    let limits = c.args.limits in
    let form = c.args.form in
    let file = c.args.file.now in
    rw (p.1, p.2)
    (error_in_memory _ (IsUpdated changes limits form file) (IsUpdateError changes limits form file) _ _ c.in_err-update_into.field-0.0
    (λ text failed. failed.1) (updated_needs_memory changes limits form file) c.in_err-update_into.ensures.failed)
