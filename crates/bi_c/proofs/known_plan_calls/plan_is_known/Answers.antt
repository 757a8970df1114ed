use Rattle.bi_c.proofs.PlanCallFacts.{plan_is_known}
use Rattle.bi_c.proofs.known_plan_calls.plan_is_known.Goals as goal

pub returns : goal.returns
returns c = plan_is_known
