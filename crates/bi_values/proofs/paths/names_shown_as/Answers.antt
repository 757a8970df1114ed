use Rattle.std.proofs.Common.{IfNone, subst, Option, Vec, ℕ, Global}
use Rattle.bi_values.specs.NameWords.{IsNoChildName}
use Rattle.bi_values.specs.ValueNames.{names_of_path}
use Rattle.bi_values.proofs.Steps.{no_path_steps}
use Rattle.bi_values.proofs.paths.names_shown_as.Goals as goal

pub returns-in_default-2-clause-none : goal.returns-in_default-2-clause-none
returns-in_default-2-clause-none c =
    let step = c.in-Some.step.now in
    no_path_steps c.args.text.now (names_of_path c.loop-step.names.items) c.loop-step.rest.now step c.in-Some.later.now
    c.loop-step.invariant.0 c.loop-step.invariant.1 c.in-Some.ensures.some
    (subst (λ (found : Option (Vec ℕ Global)). IfNone found (IsNoChildName step)) c.in_default-2.is c.in_ok-name.ensures.none)
