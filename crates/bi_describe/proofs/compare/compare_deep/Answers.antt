use Rattle.std.proofs.Common.{inl, refl}
use Rattle.std.proofs.lemmas.Result.{err_from_is_err_and}
use Rattle.bi_norm.specs.Reading.{meaning_of}
use Rattle.bi_norm.proofs.Comparisons.{opened_means}
use Rattle.bi_describe.specs.declared.compare.CompareError.TheVariants.{OutOfMemory}
use Rattle.bi_describe.proofs.ComparedImages.{memory_error}
use Rattle.bi_describe.proofs.DeepComparisons.{deep_describing_error, deep_files_compared, same_deep}
use Rattle.bi_describe.proofs.compare.compare_deep.Goals as goal

pub returns-in_err-image-clause-failed : goal.returns-in_err-image-clause-failed
returns-in_err-image-clause-failed c =
    let p = err_from_is_err_and c.from_residual.result c.from_residual.ensures.1 in
    rw (p.1, p.2) (inl (c.in_err-image.ensures.failed c.args.other.now))

pub returns-in_err-other_image-clause-failed : goal.returns-in_err-other_image-clause-failed
returns-in_err-other_image-clause-failed c =
    let p = err_from_is_err_and c.from_residual-in_err-other_image.result c.from_residual-in_err-other_image.ensures.1 in
    rw (p.1, p.2) (inl (c.in_err-other_image.ensures.failed c.args.one.now (meaning_of c.in_ok-image.image)
    (opened_means c.args.limits c.args.one.now c.in_ok-image.image c.in_ok-image.ensures.read).means))

pub returns-in_err-same-clause-failed : goal.returns-in_err-same-clause-failed
returns-in_err-same-clause-failed c =
    let p = err_from_is_err_and c.from_residual-in_err-same.result c.from_residual-in_err-same.ensures.1 in
    rw (p.1, p.2) (inl (memory_error c.args.limits c.args.one.now c.args.other.now c.in_ok-image.image OutOfMemory
    c.in_ok-image.ensures.read refl))

pub returns-in_err-print-clause-failed : goal.returns-in_err-print-clause-failed
returns-in_err-print-clause-failed c =
    let p = err_from_is_err_and c.from_residual-in_err-print.result c.from_residual-in_err-print.ensures.1 in
    rw (p.1, p.2) (inl (memory_error c.args.limits c.args.one.now c.args.other.now c.in_ok-image.image OutOfMemory
    c.in_ok-image.ensures.read refl))

pub returns-then-same-clause-compared : goal.returns-then-same-clause-compared
returns-then-same-clause-compared c =
    deep_files_compared c.args.format c.args.limits c.args.one.now c.args.other.now c.in_ok-image.image c.in_ok-other_image.other_image
    c.in_ok-same.same _ _ c.in_ok-image.ensures.read c.in_ok-other_image.ensures.read c.in_ok-same.ensures c.if-same.true
    (same_deep c.args.format c.args.limits _ _ _ c.in_ok-print.ensures)

pub returns-in_err-differences-clause-failed : goal.returns-in_err-differences-clause-failed
returns-in_err-differences-clause-failed c =
    let p = err_from_is_err_and c.from_residual-in_err-differences.result c.from_residual-in_err-differences.ensures.1 in
    rw (p.1, p.2) (deep_describing_error c.args.limits c.args.one.now c.args.other.now c.in_ok-image.image c.in_ok-other_image.other_image
    c.in_ok-same.same _ c.in_ok-image.ensures.read c.in_ok-other_image.ensures.read c.in_ok-same.ensures c.if-same.false
    c.in_err-differences.ensures.failed)

pub returns-clause-compared : goal.returns-clause-compared
returns-clause-compared c =
    deep_files_compared c.args.format c.args.limits c.args.one.now c.args.other.now c.in_ok-image.image c.in_ok-other_image.other_image
    c.in_ok-same.same _ _ c.in_ok-image.ensures.read c.in_ok-other_image.ensures.read c.in_ok-same.ensures c.if-same.false
    c.in_ok-differences.ensures.compared
