use Rattle.bi_describe.specs.MadeWords.{ignored_words}
use Rattle.bootimg.specs.CommandLine.{IsBadValue, IsComparePlan, IsIgnored}
use Rattle.bootimg.proofs.CommandLines.{outcome_weaker}
use Rattle.bootimg.proofs.command_line.source.compare_plan.Goals as goal

pub returns-in_err-ignored-clause-failure : goal.returns-in_err-ignored-clause-failure
returns-in_err-ignored-clause-failure c =
    let options = c.args.options.now in
    outcome_weaker (IsBadValue (IsIgnored options)) (IsBadValue (IsComparePlan options)) c.from_residual.result c.in_err-ignored.field-0.0
    c.from_residual.ensures.1 c.in_err-ignored.ensures.failure
    (λ failure bad. (bad.0, λ plan is. bad.1 (ignored_words plan.ignored.items) is.ignored))
