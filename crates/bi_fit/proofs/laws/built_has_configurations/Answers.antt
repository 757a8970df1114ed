use Rattle.bi_fit.proofs.BuiltConfigurations.{built_has_configurations}
use Rattle.bi_fit.proofs.laws.built_has_configurations.Goals as goal

pub returns : goal.returns
returns c = built_has_configurations
