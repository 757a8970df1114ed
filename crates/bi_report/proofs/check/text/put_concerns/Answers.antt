use Rattle.std.proofs.Common.{ap, rules, ◌∙◌}
use Rattle.bi_base.proofs.SinkLaws.{passed_on}
use Rattle.bi_report.specs.CheckedFiles.{text_of_concerns}
use Rattle.bi_report.specs.CheckedImages.{concerns_left, kept_left}
use Rattle.bi_report.specs.Checking.{kept_concerns}
use Rattle.bi_report.specs.FoundConcerns.{concerns_in}
use Rattle.bi_report.proofs.FoundConcerns.{kept_in, none_kept}
use Rattle.bi_report.proofs.LaterPuts.{same_call}
use Rattle.bi_report.proofs.check.text.put_concerns.Goals as goal

pub returns-in_err-result-clause-text : goal.returns-in_err-result-clause-text
returns-in_err-result-clause-text g c =
    let S = g.S.Sink in
    let text = text_of_concerns c.args.checker.format in
    let same = ap concerns_in c.kept-kept.ensures ∙ kept_in c.allowed_kinds.result (concerns_left c.args.concerns)
    ∙ ap (λ kinds. kept_concerns kinds (concerns_in (concerns_left c.args.concerns))) c.allowed_kinds.ensures in
    passed_on S.appends S.fails c.args.sink.now _ _ c.from_residual.result _ c.from_residual.ensures.1
    (same_call (λ old text new. S.fails old text new c.in_err-result.field-0.0) _ _ _ _
    (text (concerns_in (kept_left c.kept-kept.result))) _
    c.new-pen.ensures.same_sink (search rules) (ap text same)
    (c.in_err-result.ensures.wrote c.new-pen.result _ c.new-pen.ensures.not_failed c.put_text-any.ensures.text))

pub returns-clause-text : goal.returns-clause-text
returns-clause-text g c =
    let text = text_of_concerns c.args.checker.format in
    let same = ap concerns_in c.kept-kept.ensures ∙ kept_in c.allowed_kinds.result (concerns_left c.args.concerns)
    ∙ ap (λ kinds. kept_concerns kinds (concerns_in (concerns_left c.args.concerns))) c.allowed_kinds.ensures in
    same_call g.S.Sink.appends _ _ _ _ (text (concerns_in (kept_left c.kept-kept.result))) _ c.new-pen.ensures.same_sink
    (search rules) (ap text same)
    (c.in_ok-result.ensures.wrote c.new-pen.result _ c.new-pen.ensures.not_failed c.put_text-any.ensures.text)

pub returns-clause-clean : goal.returns-clause-clean
returns-clause-clean g c =
    none_kept (kept_left c.kept-kept.result) c.put_text-any.result _ c.put_text-any.ensures.any
    (ap concerns_in c.kept-kept.ensures ∙ kept_in c.allowed_kinds.result (concerns_left c.args.concerns)
    ∙ ap (λ kinds. kept_concerns kinds (concerns_in (concerns_left c.args.concerns))) c.allowed_kinds.ensures)
