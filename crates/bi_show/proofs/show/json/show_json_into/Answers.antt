use Rattle.std.proofs.Common.{List, ℕ, refl, rules}
use Rattle.std.proofs.lemmas.Result.{err_from_is_err_and}
use Rattle.bi_base.specs.Commands.{WasRefused}
use Rattle.bi_fit.specs.Reading.{IsReadFit}
use Rattle.bi_fit.proofs.AppendedTexts.{result_appended_as, result_failed_as, wrote_none_of_kind, wrote_of_kind}
use Rattle.bi_legacy.specs.Reading.{IsReadLegacy}
use Rattle.bi_report.specs.CheckedFiles.{IsCheckError}
use Rattle.bi_report.specs.ReadChecking.{IsReadCheckError}
use Rattle.bi_report.proofs.CheckedFiles.{check_error_of_reading, check_error_of_tree}
use Rattle.bi_show.specs.ShownObjects.{IsShownFit, IsShownObject, OfImageTree}
use Rattle.bi_show.proofs.ShownObjects.{legacy_shown}
use Rattle.bi_show.proofs.show.json.show_json_into.Goals as goal

pub returns-in_err-image-clause-failed : goal.returns-in_err-image-clause-failed
returns-in_err-image-clause-failed g c =
    let p = err_from_is_err_and c.from_residual.result c.from_residual.ensures.1 in
    rw (p.1, p.2)
    (WasRefused (check_error_of_reading c.args.limits c.args.file.now c.in_err-image.field-0.0 c.in_err-image.ensures.failed) refl)

pub returns-in-Legacy-clause-appended : goal.returns-in-Legacy-clause-appended
returns-in-Legacy-clause-appended g c =
    let limits = c.args.limits in
    let file = c.args.file.now in
    let is : IsReadLegacy limits file c.in-Legacy.image = search rules in
    wrote_of_kind g.S.Sink.appends g.S.Sink.fails (IsShownObject limits file) c.args.sink.now _ c.append_legacy.result
    c.append_legacy.new.sink (legacy_shown limits file c.in-Legacy.image is) c.append_legacy.ensures

pub returns-in-Legacy-clause-failed : goal.returns-in-Legacy-clause-failed
returns-in-Legacy-clause-failed g c =
    let limits = c.args.limits in
    let file = c.args.file.now in
    let is : IsReadLegacy limits file c.in-Legacy.image = search rules in
    wrote_none_of_kind g.S.Sink.appends g.S.Sink.fails (IsShownObject limits file) (IsCheckError limits file) c.args.sink.now _
    c.append_legacy.result c.append_legacy.new.sink (legacy_shown limits file c.in-Legacy.image is) c.append_legacy.ensures

pub returns-in-Fit-clause-appended : goal.returns-in-Fit-clause-appended
returns-in-Fit-clause-appended g c =
    let limits = c.args.limits in
    let file = c.args.file.now in
    result_appended_as g.S.Sink.appends (IsShownFit limits file) (IsShownObject limits file) c.args.sink.now _ c.append_fit.result
    (λ text is. OfImageTree is) c.append_fit.ensures.appended

pub returns-in-Fit-clause-failed : goal.returns-in-Fit-clause-failed
returns-in-Fit-clause-failed g c =
    let limits = c.args.limits in
    let file = c.args.file.now in
    let read : IsReadFit limits file c.in-Fit.image = search rules in
    result_failed_as g.S.Sink.fails (IsShownFit limits file) (IsShownObject limits file) (IsReadCheckError limits c.in-Fit.image)
    (IsCheckError limits file) c.args.sink.now _ c.append_fit.result (λ text is. OfImageTree is)
    (λ error is. check_error_of_tree limits file c.in-Fit.image error read is) c.append_fit.ensures.failed
