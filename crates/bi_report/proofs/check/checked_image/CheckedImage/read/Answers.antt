use Rattle.std.proofs.Common.{rules, subst, sym}
use Rattle.std.proofs.lemmas.Result.{err_from_is_err_and}
use Rattle.bi_report.specs.FoundConcerns.{HasConcerns, found_in_fit}
use Rattle.bi_report.proofs.CheckedFiles.{check_error_of_reading, check_error_of_tree, legacy_has, tree_has}
use Rattle.bi_report.proofs.check.checked_image.CheckedImage.read.Goals as goal

pub returns-in_err-image-clause-failed : goal.returns-in_err-image-clause-failed
returns-in_err-image-clause-failed c =
    let p = err_from_is_err_and c.from_residual.result c.from_residual.ensures.1 in
    rw (p.1, p.2) (check_error_of_reading c.args.limits c.args.file.now c.in_err-image.field-0.0 c.in_err-image.ensures.failed)

pub returns-in-Legacy-clause-read : goal.returns-in-Legacy-clause-read
returns-in-Legacy-clause-read c = legacy_has c.args.limits c.args.file.now c.in-Legacy.image (search rules)

pub returns-in_err-judged-in-Fit-clause-failed : goal.returns-in_err-judged-in-Fit-clause-failed
returns-in_err-judged-in-Fit-clause-failed c =
    let p = err_from_is_err_and c.from_residual-in_err-judged-in-Fit.result c.from_residual-in_err-judged-in-Fit.ensures.1 in
    rw (p.1, p.2) (check_error_of_tree c.args.limits c.args.file.now c.in-Fit.image c.in_err-judged-in-Fit.field-0.0 (search rules)
    c.in_err-judged-in-Fit.ensures.failed)

pub returns-in_ok-judged-in-Fit-clause-read : goal.returns-in_ok-judged-in-Fit-clause-read
returns-in_ok-judged-in-Fit-clause-read c =
    subst (λ content. HasConcerns c.args.limits c.args.file.now (found_in_fit c.args.file.now content))
    (sym c.in_ok-judged-in-Fit.ensures.same)
    (tree_has c.args.limits c.args.file.now c.in-Fit.image (search rules) c.in_ok-judged-in-Fit.ensures.within)
