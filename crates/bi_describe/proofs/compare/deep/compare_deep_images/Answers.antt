use Rattle.std.proofs.Common.{ap, ◌∙◌}
use Rattle.std.proofs.lemmas.Result.{err_from_is_err_and}
use Rattle.bi_norm.specs.Reading.{meaning_of}
use Rattle.bi_describe.specs.MadeLines.{made_lines}
use Rattle.bi_describe.proofs.DeepComparisons.{deep_error_of_one, deep_error_of_other, different_deep}
use Rattle.bi_describe.proofs.compare.deep.compare_deep_images.Goals as goal

pub returns-in_err-kept-clause-failed : goal.returns-in_err-kept-clause-failed
returns-in_err-kept-clause-failed c =
    let p = err_from_is_err_and c.from_residual.result c.from_residual.ensures.1 in
    rw (p.1, p.2) (deep_error_of_one c.args.limits (meaning_of c.args.image.now) (meaning_of c.args.other.now) _
    c.in_err-kept.ensures.failed)

pub returns-in_err-other_kept-clause-failed : goal.returns-in_err-other_kept-clause-failed
returns-in_err-other_kept-clause-failed c =
    let p = err_from_is_err_and c.from_residual-in_err-other_kept.result c.from_residual-in_err-other_kept.ensures.1 in
    rw (p.1, p.2) (deep_error_of_other c.args.limits (meaning_of c.args.image.now) (meaning_of c.args.other.now) _
    c.in_ok-kept.ensures.kept.described c.in_err-other_kept.ensures.failed)

pub returns-clause-compared : goal.returns-clause-compared
returns-clause-compared c =
    let first = c.in_ok-kept.ensures.kept in
    let second = c.in_ok-other_kept.ensures.kept in
    different_deep c.args.format c.args.limits (meaning_of c.args.image.now) (meaning_of c.args.other.now) _
    (made_lines c.deref.result.now) first.described second.described
    (ap made_lines c.deref.ensures.value ∙ c.in_ok-lines.ensures _ _ first.keeps second.keeps) c.in_ok-print.ensures
