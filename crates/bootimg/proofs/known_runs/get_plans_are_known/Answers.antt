use Rattle.bootimg.proofs.GetFacts.{get_plans_are_known}
use Rattle.bootimg.proofs.known_runs.get_plans_are_known.Goals as goal

pub returns : goal.returns
returns c = get_plans_are_known
