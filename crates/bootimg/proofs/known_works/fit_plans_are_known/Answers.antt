use Rattle.bootimg.proofs.WorkFacts.{fit_plans_are_known}
use Rattle.bootimg.proofs.known_works.fit_plans_are_known.Goals as goal

pub returns : goal.returns
returns c = fit_plans_are_known
