use Rattle.std.proofs.Common.{◌∙◌}
use Rattle.std.proofs.lemmas.Result.{IfOk-weaker}
use Rattle.bi_describe.proofs.KeptComparisons.{two_fits_stay, two_legacy_stay}
use Rattle.bi_describe.proofs.compare.ignoring.lines_of_kept.Goals as goal

pub returns-in-Legacy-Legacy : goal.returns-in-Legacy-Legacy
returns-in-Legacy-Legacy c = IfOk-weaker c.differences_or_reason.result _ _
    (λ lines is words one other own others kept other_kept keeps other_keeps. is own others keeps other_keeps
    ∙ two_legacy_stay words one other c.args.image.now c.args.other.now _ _ own others c.in-Legacy-Legacy.is-0 c.in-Legacy-Legacy.is-1
    kept other_kept) c.differences_or_reason.ensures

pub returns-in-Fit-Fit : goal.returns-in-Fit-Fit
returns-in-Fit-Fit c = IfOk-weaker c.differences_or_reason-in-Fit-Fit.result _ _
    (λ lines is words one other own others kept other_kept keeps other_keeps. is own others keeps other_keeps
    ∙ two_fits_stay words one other c.args.image.now c.args.other.now _ _ own others c.in-Fit-Fit.is-0 c.in-Fit-Fit.is-1
    kept other_kept) c.differences_or_reason-in-Fit-Fit.ensures
