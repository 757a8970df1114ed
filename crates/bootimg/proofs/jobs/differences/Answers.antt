use Rattle.std.proofs.Common.{◌≡◌, ◌==◌, ◌∙◌, false, length, subst, sym}
use Rattle.bootimg.proofs.ComparedPlans.{failure_without, output_without}
use Rattle.bootimg.proofs.jobs.differences.Goals as goal

pub returns-clause-compared : goal.returns-clause-compared
returns-clause-compared c =
    let plan = c.args.plan.now in
    let some : (length plan.ignored.items == 0) ≡ false =
    subst (λ number. (number == 0) ≡ false) plan.ignored.ok.0 (sym c.is_empty.ensures ∙ c.if-is_empty.false) in
    output_without plan.quiet plan.deep plan.format c.args.limits c.args.one.now c.args.other.now c.differences_without.result
    plan.ignored.items c.deref.result.now some c.deref.ensures.value c.differences_without.ensures.compared

pub returns-clause-failed : goal.returns-clause-failed
returns-clause-failed c =
    let plan = c.args.plan.now in
    let some : (length plan.ignored.items == 0) ≡ false =
    subst (λ number. (number == 0) ≡ false) plan.ignored.ok.0 (sym c.is_empty.ensures ∙ c.if-is_empty.false) in
    failure_without plan.quiet plan.deep plan.format c.args.limits c.args.one.now c.args.other.now c.differences_without.result
    plan.ignored.items some c.differences_without.ensures.failed
