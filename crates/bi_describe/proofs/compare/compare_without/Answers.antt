use Rattle.std.proofs.lemmas.Result.{err_from_is_err_and}
use Rattle.bi_norm.specs.Reading.{meaning_of}
use Rattle.bi_describe.proofs.ComparedImages.{error_of_one, error_of_other}
use Rattle.bi_describe.proofs.compare.compare_without.Goals as goal

pub returns-in_err-described-clause-failed : goal.returns-in_err-described-clause-failed
returns-in_err-described-clause-failed c =
    let p = err_from_is_err_and c.from_residual.result c.from_residual.ensures.1 in
    rw (p.1, p.2) (error_of_one c.args.limits c.args.image.now c.args.other.now _ c.in_err-described.ensures.failed)

pub returns-in_err-other_described-clause-failed : goal.returns-in_err-other_described-clause-failed
returns-in_err-other_described-clause-failed c =
    let p = err_from_is_err_and c.from_residual-in_err-other_described.result c.from_residual-in_err-other_described.ensures.1 in
    rw (p.1, p.2) (error_of_other c.args.limits c.args.image.now c.args.other.now _ c.in_ok-described.ensures.within
    c.in_err-other_described.ensures.failed)

pub returns-clause-compared : goal.returns-clause-compared
returns-clause-compared c =
    let one = meaning_of c.args.image.now in
    let other = meaning_of c.args.other.now in
    c.in_ok-compare_kept.ensures one other (c.in_ok-kept.ensures one c.in_ok-described.ensures.described.holds)
    (c.in_ok-other_kept.ensures other c.in_ok-other_described.ensures.described.holds)
