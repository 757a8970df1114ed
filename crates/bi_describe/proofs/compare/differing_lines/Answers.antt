use Rattle.std.proofs.Common.{◌∙◌}
use Rattle.std.proofs.lemmas.Result.{IfOk-weaker}
use Rattle.bi_describe.proofs.ComparedImages.{both_fit, both_legacy}
use Rattle.bi_describe.proofs.compare.differing_lines.Goals as goal

pub returns-in-Legacy-Legacy : goal.returns-in-Legacy-Legacy
returns-in-Legacy-Legacy c = IfOk-weaker c.differences_or_reason.result _ _ (λ lines is own others kept other_kept.
    is own others kept other_kept
    ∙ both_legacy c.args.image.now c.args.other.now _ _ own others c.in-Legacy-Legacy.is-0 c.in-Legacy-Legacy.is-1)
    c.differences_or_reason.ensures

pub returns-in-Fit-Fit : goal.returns-in-Fit-Fit
returns-in-Fit-Fit c = IfOk-weaker c.differences_or_reason-in-Fit-Fit.result _ _ (λ lines is own others kept other_kept.
    is own others kept other_kept
    ∙ both_fit c.args.image.now c.args.other.now _ _ own others c.in-Fit-Fit.is-0 c.in-Fit-Fit.is-1)
    c.differences_or_reason-in-Fit-Fit.ensures
