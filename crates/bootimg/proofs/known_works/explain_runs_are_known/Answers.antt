use Rattle.bootimg.proofs.WorkFacts.{explain_runs_are_known}
use Rattle.bootimg.proofs.known_works.explain_runs_are_known.Goals as goal

pub returns : goal.returns
returns c = explain_runs_are_known
