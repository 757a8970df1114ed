use Rattle.std.proofs.Common.{refl}
use Rattle.std.proofs.lemmas.Result.{err_from_is_err_and}
use Rattle.bi_base.specs.Commands.{SinkFailed}
use Rattle.bi_fit.specs.Content.{tree_of}
use Rattle.bi_fit.specs.Judgement.{verdicts_of}
use Rattle.bi_report.proofs.ImageReports.{good_of_counts}
use Rattle.bi_report.proofs.verify.verify_fit.Goals as goal

pub returns-in_err-append_fit_report-clause-failed : goal.returns-in_err-append_fit_report-clause-failed
returns-in_err-append_fit_report-clause-failed g c =
    let p = err_from_is_err_and c.from_residual-in_err-append_fit_report.result c.from_residual-in_err-append_fit_report.ensures.1 in
    rw (p.1, p.2) (SinkFailed _ c.in_err-append_fit_report.field-0.0 refl c.in_err-append_fit_report.ensures refl)

pub returns-clause-good : goal.returns-clause-good
returns-clause-good g c = good_of_counts (verdicts_of (tree_of c.args.fit.now)) c.in_ok-digests.counts _ c.in_ok-digests.ensures.counts
    c.are_good.ensures
