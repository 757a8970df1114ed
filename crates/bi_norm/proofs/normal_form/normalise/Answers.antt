use Rattle.std.proofs.lemmas.Result.{err_from_is_err_and}
use Rattle.bi_norm.specs.NormalForm.{IsNormalForm, IsNormaliseError}
use Rattle.bi_fit.proofs.AppendedTexts.{error_in_memory}
use Rattle.bi_norm.proofs.NormalForms.{normal_form_needs_memory}
use Rattle.bi_norm.proofs.normal_form.normalise.Goals as goal

pub returns-in_err-normalise_into-clause-failed : goal.returns-in_err-normalise_into-clause-failed
returns-in_err-normalise_into-clause-failed c =
    let p = err_from_is_err_and c.from_residual.result c.from_residual.ensures.1 in
    let limits = c.args.limits in
    let form = c.args.form in
    let file = c.args.file.now in
    rw (p.1, p.2)
    (error_in_memory _ (IsNormalForm limits form file) (IsNormaliseError limits form file) _ _ c.in_err-normalise_into.field-0.0
    (λ text failed. failed.1) (normal_form_needs_memory limits form file) c.in_err-normalise_into.ensures.failed)
