use Rattle.bi_fit.proofs.UpdatedTrees.{updated_is_accepted}
use Rattle.bi_fit.proofs.update_laws.updated_is_accepted.Goals as goal

pub returns : goal.returns
returns c = updated_is_accepted
