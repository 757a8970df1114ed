use Rattle.std.proofs.Common.{rules}
use Rattle.std.proofs.lemmas.Result.{err_from_is_err_and}
use Rattle.bi_legacy.specs.Reading.{IsReadLegacy}
use Rattle.bi_norm.specs.Reading.{ForLegacyImage}
use Rattle.bi_report.proofs.CheckedFiles.{check_error_of_reading}
use Rattle.bi_show.proofs.ShownPages.{tree_not_shown}
use Rattle.bi_show.proofs.show.show.Goals as goal

pub returns-in_err-image-clause-failed : goal.returns-in_err-image-clause-failed
returns-in_err-image-clause-failed c =
    let p = err_from_is_err_and c.from_residual.result c.from_residual.ensures.1 in
    rw (p.1, p.2) (check_error_of_reading c.args.limits c.args.file.now c.in_err-image.field-0.0 c.in_err-image.ensures.failed)

pub returns-in_err-legacy_page-in-Legacy-clause-failed : goal.returns-in_err-legacy_page-in-Legacy-clause-failed
returns-in_err-legacy_page-in-Legacy-clause-failed c =
    let residual = c.from_residual-in_err-legacy_page-in-Legacy in
    let p = err_from_is_err_and residual.result residual.ensures.1 in
    let is : IsReadLegacy c.args.limits c.args.file.now c.in-Legacy.image = search rules in
    rw (p.1, p.2) (ForLegacyImage c.in-Legacy.image.image is.means)

pub returns-in-Fit-clause-failed : goal.returns-in-Fit-clause-failed
returns-in-Fit-clause-failed c =
    tree_not_shown c.args.limits c.args.file.now c.in-Fit.image c.fit_page.result (search rules) c.fit_page.ensures.failed
