use Rattle.bootimg.proofs.WorkFacts.{explain_work_is_known}
use Rattle.bootimg.proofs.known_works.explain_work_is_known.Goals as goal

pub returns : goal.returns
returns c = explain_work_is_known
