use Rattle.std.proofs.Common.{refl, rules}
use Rattle.std.proofs.lemmas.Result.{err_from_is_err_and}
use Rattle.bi_base.specs.Commands.{SinkFailed}
use Rattle.bi_report.specs.VerifiedFiles.{legacy_report_text}
use Rattle.bi_report.proofs.ImageReports.{legacy_reported, fit_reported, fit_not_reported}
use Rattle.bi_report.proofs.verify.verify_into.Goals as goal

pub returns-in_err-append_legacy_report-in-Legacy-clause-failed : goal.returns-in_err-append_legacy_report-in-Legacy-clause-failed
returns-in_err-append_legacy_report-in-Legacy-clause-failed g c =
    let p = err_from_is_err_and c.from_residual-in_err-append_legacy_report-in-Legacy.result
    c.from_residual-in_err-append_legacy_report-in-Legacy.ensures.1 in
    rw (p.1, p.2)
    (SinkFailed _ c.in_err-append_legacy_report-in-Legacy.field-0.0
    (legacy_reported c.args.format c.args.limits c.args.file.now c.in-Legacy._image
    (search rules)).report
    c.in_err-append_legacy_report-in-Legacy.ensures refl)

pub returns-in_ok-append_legacy_report-in-Legacy-clause-appended : goal.returns-in_ok-append_legacy_report-in-Legacy-clause-appended
returns-in_ok-append_legacy_report-in-Legacy-clause-appended g c = record {
  text = legacy_report_text c.args.format;
  is_text = legacy_reported c.args.format c.args.limits c.args.file.now c.in-Legacy._image (search rules);
  appended = c.in_ok-append_legacy_report-in-Legacy.ensures;
}

pub returns-in-Fit-clause-appended : goal.returns-in-Fit-clause-appended
returns-in-Fit-clause-appended g c =
    fit_reported g.S.Sink.appends c.args.format c.args.limits c.args.file.now c.in-Fit.image c.args.sink.now c.verify_fit.new.sink
    c.verify_fit.result (search rules)
    c.verify_fit.ensures.appended c.verify_fit.ensures.good

pub returns-in-Fit-clause-failed : goal.returns-in-Fit-clause-failed
returns-in-Fit-clause-failed g c =
    fit_not_reported g.S.Sink.fails c.args.format c.args.limits c.args.file.now c.in-Fit.image c.args.sink.now c.verify_fit.new.sink
    c.verify_fit.result (search rules)
    c.verify_fit.ensures.failed
