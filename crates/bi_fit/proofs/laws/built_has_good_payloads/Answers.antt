use Rattle.bi_fit.proofs.BuiltVerdicts.{built_has_good_payloads}
use Rattle.bi_fit.proofs.laws.built_has_good_payloads.Goals as goal

pub returns : goal.returns
returns c = built_has_good_payloads
