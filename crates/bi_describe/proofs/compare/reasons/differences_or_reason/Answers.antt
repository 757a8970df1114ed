use Rattle.std.proofs.Common.{ap, ◌∙◌}
use Rattle.std.proofs.lemmas.Result.{IfOk-weaker}
use Rattle.bi_describe.specs.MadeLines.{compared_lines}
use Rattle.bi_describe.proofs.ComparedLines.{kept_differences}
use Rattle.bi_describe.proofs.compare.reasons.differences_or_reason.Goals as goal

pub returns : goal.returns
returns c = IfOk-weaker c.push_if_none.result _ _ (λ all is meaning other_meaning kept other_kept.
    kept_differences meaning other_meaning c.args.one.now c.args.other.now _ _ _ _ _ _ _
    (ap compared_lines c.deref.ensures.value ∙ c.in_ok-lines.ensures)
    (ap compared_lines c.deref-2.ensures.value ∙ c.in_ok-other_lines.ensures) c.in_ok-differences.ensures c.text.ensures c.text-2.ensures
    c.reason.ensures is kept other_kept) c.push_if_none.ensures
