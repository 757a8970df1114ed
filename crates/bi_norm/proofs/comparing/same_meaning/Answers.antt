use Rattle.std.proofs.lemmas.Result.{err_from_is_err_and}
use Rattle.bi_norm.proofs.Comparisons.{error_of_first, error_of_second, result_compared, result_failed}
use Rattle.bi_norm.proofs.comparing.same_meaning.Goals as goal

pub returns-in_err-image-clause-failed : goal.returns-in_err-image-clause-failed
returns-in_err-image-clause-failed c =
    let p = err_from_is_err_and c.from_residual.result c.from_residual.ensures.1 in
    rw (p.1, p.2) (error_of_first c.args.limits c.args.one.now c.args.other.now c.in_err-image.field-0.0 c.in_err-image.ensures.failed)

pub returns-in_err-other_image-clause-failed : goal.returns-in_err-other_image-clause-failed
returns-in_err-other_image-clause-failed c =
    let p = err_from_is_err_and c.from_residual-in_err-other_image.result c.from_residual-in_err-other_image.ensures.1 in
    rw (p.1, p.2) (error_of_second c.args.limits c.args.one.now c.args.other.now c.in_ok-image.image c.in_err-other_image.field-0.0
    c.in_ok-image.ensures.read c.in_err-other_image.ensures.failed)

pub returns-clause-compared : goal.returns-clause-compared
returns-clause-compared c =
    result_compared c.args.limits c.args.one.now c.args.other.now c.in_ok-image.image c.in_ok-other_image.other_image
    c.has_same_meaning.result c.in_ok-image.ensures.read c.in_ok-other_image.ensures.read c.has_same_meaning.ensures.compared

pub returns-clause-failed : goal.returns-clause-failed
returns-clause-failed c =
    result_failed c.args.limits c.args.one.now c.args.other.now c.in_ok-image.image c.has_same_meaning.result c.in_ok-image.ensures.read
    c.has_same_meaning.ensures.failed
