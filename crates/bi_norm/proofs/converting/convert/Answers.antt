use Rattle.std.proofs.lemmas.Result.{err_from_is_err_and}
use Rattle.bi_norm.specs.Converting.{IsConvertedFile, IsConvertError}
use Rattle.bi_fit.proofs.AppendedTexts.{error_in_memory}
use Rattle.bi_norm.proofs.converting.convert.Goals as goal

pub returns-in_err-convert_into-clause-failed : goal.returns-in_err-convert_into-clause-failed
returns-in_err-convert_into-clause-failed c =
    let p = err_from_is_err_and c.from_residual.result c.from_residual.ensures.1 in
    let limits = c.args.limits in
    let file = c.args.file.now in
    rw (p.1, p.2)
    (error_in_memory _ (IsConvertedFile limits file) (IsConvertError limits file) _ _ c.in_err-convert_into.field-0.0
    (λ text failed. failed.1) (λ text is. record { image = is.image; means = is.means; can = is.can }) c.in_err-convert_into.ensures.failed)
