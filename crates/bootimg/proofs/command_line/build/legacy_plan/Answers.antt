use Rattle.std.proofs.Common.{◌≡◌, codes, subst, sym}
use Rattle.bootimg.specs.CommandLine.{texts_of, values_of, ArePartSources, IsBadValue, IsLegacyPlan}
use Rattle.bootimg.proofs.CommandLines.{fails_with, outcome_weaker}
use Rattle.bootimg.proofs.command_line.build.legacy_plan.Goals as goal

pub returns-in_err-fields-clause-failure : goal.returns-in_err-fields-clause-failure
returns-in_err-fields-clause-failure c =
    let options = c.args.options.now in
    let bad = c.in_err-fields.ensures.bad in
    fails_with (IsBadValue (IsLegacyPlan options)) c.from_residual.result c.in_err-fields.field-0.0 c.from_residual.ensures.1
    (bad.0, λ plan is. bad.1 plan.fields is.fields)

pub returns-in_err-parts-clause-failure : goal.returns-in_err-parts-clause-failure
returns-in_err-parts-clause-failure c =
    let options = c.args.options.now in
    let arguments = c.all_values-arguments.result.now in
    let same : texts_of arguments ≡ values_of options (codes "lengths") = c.all_values-arguments.ensures in
    outcome_weaker (IsBadValue (ArePartSources (texts_of arguments)))
    (IsBadValue (IsLegacyPlan options)) c.from_residual-in_err-parts.result c.in_err-parts.field-0.0 c.from_residual-in_err-parts.ensures.1
    c.in_err-parts.ensures.failure
    (λ failure bad. (bad.0, λ plan is. bad.1 plan.parts.items (subst (λ texts. ArePartSources texts plan.parts.items) (sym same) is.parts)))
