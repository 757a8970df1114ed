use Rattle.std.proofs.Common.{refl, subst, sym}
use Rattle.std.proofs.lemmas.Result.{err_from_is_err_and}
use Rattle.bi_base.specs.Commands.{SinkFailed, WasRefused}
use Rattle.bi_report.specs.Checking.{allowed_under}
use Rattle.bi_report.specs.FoundConcerns.{HasConcerns}
use Rattle.bi_report.proofs.CheckedFiles.{text_appended, text_checks}
use Rattle.bi_report.proofs.check.check_into.Goals as goal

pub returns-in_err-image-clause-failed : goal.returns-in_err-image-clause-failed
returns-in_err-image-clause-failed g c =
    let p = err_from_is_err_and c.from_residual.result c.from_residual.ensures.1 in
    rw (p.1, p.2) (WasRefused c.in_err-image.ensures.failed refl)

pub returns-in_err-clean-clause-failed : goal.returns-in_err-clean-clause-failed
returns-in_err-clean-clause-failed g c =
    let p = err_from_is_err_and c.from_residual-in_err-clean.result c.from_residual-in_err-clean.ensures.1 in
    let has = subst (HasConcerns c.args.limits c.args.file.now) (sym c.concerns.ensures) c.in_ok-image.ensures.read in
    rw (p.1, p.2) (SinkFailed _ c.in_err-clean.field-0.0
    (text_checks c.args.checker.format (allowed_under c.args.checker.policy) c.args.limits c.args.file.now _ has)
    c.in_err-clean.ensures.text refl)

pub returns-clause-appended : goal.returns-clause-appended
returns-clause-appended g c =
    text_appended g.S.Sink.appends c.args.checker.format (allowed_under c.args.checker.policy) c.args.limits c.args.file.now _
    c.args.sink.now
    c.put_concerns.new.sink c.in_ok-clean.clean
    (subst (HasConcerns c.args.limits c.args.file.now) (sym c.concerns.ensures) c.in_ok-image.ensures.read) c.in_ok-clean.ensures.text
    c.in_ok-clean.ensures.clean
