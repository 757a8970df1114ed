use Rattle.std.proofs.Common.{refl}
use Rattle.std.proofs.lemmas.Result.{err_from_is_err_and}
use Rattle.bi_describe.proofs.ComparedImages.{are_compared, memory_error}
use Rattle.bi_describe.specs.declared.compare.CompareError.TheVariants.{OutOfMemory}
use Rattle.bi_norm.specs.Reading.{meaning_of}
use Rattle.bi_describe.proofs.compare.have_same_meaning.Goals as goal
use Rattle.bi_norm.proofs.Comparisons.{opened_means}

pub returns-in_err-image-clause-failed : goal.returns-in_err-image-clause-failed
returns-in_err-image-clause-failed c =
    let p = err_from_is_err_and c.from_residual.result c.from_residual.ensures.1 in
    rw (p.1, p.2) (c.in_err-image.ensures.failed c.args.other.now)

pub returns-in_err-other_image-clause-failed : goal.returns-in_err-other_image-clause-failed
returns-in_err-other_image-clause-failed c =
    let p = err_from_is_err_and c.from_residual-in_err-other_image.result c.from_residual-in_err-other_image.ensures.1 in
    rw (p.1, p.2) (c.in_err-other_image.ensures.failed c.args.one.now (meaning_of c.in_ok-image.image)
    (opened_means c.args.limits c.args.one.now c.in_ok-image.image c.in_ok-image.ensures.read).means)

pub returns-in_err-mean_the_same-clause-failed : goal.returns-in_err-mean_the_same-clause-failed
returns-in_err-mean_the_same-clause-failed c =
    let p = err_from_is_err_and c.from_residual-in_err-mean_the_same.result c.from_residual-in_err-mean_the_same.ensures.1 in
    rw (p.1, p.2) (memory_error c.args.limits c.args.one.now c.args.other.now c.in_ok-image.image OutOfMemory
    c.in_ok-image.ensures.read refl)

pub returns-clause-compared : goal.returns-clause-compared
returns-clause-compared c =
    are_compared c.args.limits c.args.one.now c.args.other.now c.in_ok-image.image c.in_ok-other_image.other_image
    c.in_ok-mean_the_same.field-0 c.in_ok-image.ensures.read c.in_ok-other_image.ensures.read
    c.in_ok-mean_the_same.ensures
