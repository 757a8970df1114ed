use Rattle.std.proofs.Common.{ap, ◌∙◌}
use Rattle.std.proofs.lemmas.Result.{err_from_is_err_and}
use Rattle.bi_describe.specs.MadeLines.{made_lines}
use Rattle.bi_describe.proofs.ComparedImages.{different_compared, error_of_one, error_of_other}
use Rattle.bi_describe.proofs.compare.compare_images.Goals as goal

pub returns-in_err-kept-clause-failed : goal.returns-in_err-kept-clause-failed
returns-in_err-kept-clause-failed c =
    let p = err_from_is_err_and c.from_residual.result c.from_residual.ensures.1 in
    rw (p.1, p.2) (error_of_one c.args.limits c.args.image.now c.args.other.now _ c.in_err-kept.ensures.failed)

pub returns-in_err-other_kept-clause-failed : goal.returns-in_err-other_kept-clause-failed
returns-in_err-other_kept-clause-failed c =
    let p = err_from_is_err_and c.from_residual-in_err-other_kept.result c.from_residual-in_err-other_kept.ensures.1 in
    rw (p.1, p.2) (error_of_other c.args.limits c.args.image.now c.args.other.now _ c.in_ok-kept.ensures.within
    c.in_err-other_kept.ensures.failed)

pub returns-clause-compared : goal.returns-clause-compared
returns-clause-compared c =
    different_compared c.args.format c.args.limits _ _ _ (made_lines c.deref.result.now) c.in_ok-kept.ensures.within
    c.in_ok-other_kept.ensures.within
    (ap made_lines c.deref.ensures.value ∙ c.in_ok-lines.ensures _ _ c.in_ok-kept.ensures.kept c.in_ok-other_kept.ensures.kept)
    c.in_ok-print.ensures
