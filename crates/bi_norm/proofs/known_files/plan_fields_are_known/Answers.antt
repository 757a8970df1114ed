use Rattle.bi_norm.proofs.BuiltTextFacts.{plan_fields_are_known}
use Rattle.bi_norm.proofs.known_files.plan_fields_are_known.Goals as goal

pub returns : goal.returns
returns c = plan_fields_are_known
