use Rattle.bi_c.proofs.PlanCallFacts.{algorithm_numbers_are_known}
use Rattle.bi_c.proofs.known_plan_calls.algorithm_numbers_are_known.Goals as goal

pub returns : goal.returns
returns c = algorithm_numbers_are_known
