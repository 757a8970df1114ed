use Rattle.std.proofs.lemmas.Result.{err_from_is_err_and}
use Rattle.bi_describe.proofs.describe.DescribedImage.new.Goals as goal

pub returns-in_err-new-in-Fit-clause-failed : goal.returns-in_err-new-in-Fit-clause-failed
returns-in_err-new-in-Fit-clause-failed c =
    let p = err_from_is_err_and c.from_residual-in_err-new-in-Fit.result c.from_residual-in_err-new-in-Fit.ensures.1 in
    rw (p.1, p.2, c.in-Fit.is) c.in_err-new-in-Fit.ensures.failed

pub returns-in_err-new-in-Fit-clause-deep_failed : goal.returns-in_err-new-in-Fit-clause-deep_failed
returns-in_err-new-in-Fit-clause-deep_failed c =
    let p = err_from_is_err_and c.from_residual-in_err-new-in-Fit.result c.from_residual-in_err-new-in-Fit.ensures.1 in
    rw (p.1, p.2, c.in-Fit.is) c.in_err-new-in-Fit.ensures.deep_failed
