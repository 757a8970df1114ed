use Rattle.bi_fit.proofs.BuiltVerdicts.{built_is_accepted}
use Rattle.bi_fit.proofs.laws.built_is_accepted.Goals as goal

pub returns : goal.returns
returns c = built_is_accepted
