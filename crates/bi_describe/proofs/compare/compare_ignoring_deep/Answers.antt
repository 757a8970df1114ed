use Rattle.std.proofs.Common.{inl}
use Rattle.std.proofs.lemmas.Result.{err_from_is_err_and}
use Rattle.bi_norm.specs.Reading.{meaning_of}
use Rattle.bi_norm.proofs.Comparisons.{opened_means}
use Rattle.bi_describe.proofs.DeepComparisons.{deep_files_without, deep_ignoring_error}
use Rattle.bi_describe.proofs.compare.compare_ignoring_deep.Goals as goal

pub returns-in_err-image-clause-failed : goal.returns-in_err-image-clause-failed
returns-in_err-image-clause-failed c =
    let p = err_from_is_err_and c.from_residual.result c.from_residual.ensures.1 in
    rw (p.1, p.2) (inl (c.in_err-image.ensures.failed c.args.other.now))

pub returns-in_err-other_image-clause-failed : goal.returns-in_err-other_image-clause-failed
returns-in_err-other_image-clause-failed c =
    let p = err_from_is_err_and c.from_residual-in_err-other_image.result c.from_residual-in_err-other_image.ensures.1 in
    rw (p.1, p.2) (inl (c.in_err-other_image.ensures.failed c.args.one.now (meaning_of c.in_ok-image.image)
    (opened_means c.args.limits c.args.one.now c.in_ok-image.image c.in_ok-image.ensures.read).means))

pub returns-in_err-compare_deep_without-clause-failed : goal.returns-in_err-compare_deep_without-clause-failed
returns-in_err-compare_deep_without-clause-failed c =
    let p = err_from_is_err_and c.from_residual-in_err-compare_deep_without.result c.from_residual-in_err-compare_deep_without.ensures.1 in
    rw (p.1, p.2) (deep_ignoring_error c.args.limits c.args.one.now c.args.other.now c.in_ok-image.image c.in_ok-other_image.other_image _
    c.in_ok-image.ensures.read c.in_ok-other_image.ensures.read c.in_err-compare_deep_without.ensures.failed)

pub returns-clause-compared : goal.returns-clause-compared
returns-clause-compared c =
    deep_files_without _ c.args.limits c.args.one.now c.args.other.now c.in_ok-image.image c.in_ok-other_image.other_image _ _
    c.in_ok-image.ensures.read c.in_ok-other_image.ensures.read c.in_ok-compare_deep_without.ensures.compared
