use Rattle.bi_norm.proofs.PlanFaultFacts.{build_plans_are_known}
use Rattle.bi_norm.proofs.known_files.build_plans_are_known.Goals as goal

pub returns : goal.returns
returns c = build_plans_are_known
