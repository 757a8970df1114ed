use Rattle.bi_fit.proofs.BuiltConfigurations.{built_by_types_has_configuration}
use Rattle.bi_fit.proofs.laws.built_by_types_has_configuration.Goals as goal

pub returns : goal.returns
returns c = built_by_types_has_configuration
