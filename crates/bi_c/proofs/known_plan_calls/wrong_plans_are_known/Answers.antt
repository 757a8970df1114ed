use Rattle.bi_c.proofs.PlanCallFacts.{wrong_plans_are_known}
use Rattle.bi_c.proofs.known_plan_calls.wrong_plans_are_known.Goals as goal

pub returns : goal.returns
returns c = wrong_plans_are_known
