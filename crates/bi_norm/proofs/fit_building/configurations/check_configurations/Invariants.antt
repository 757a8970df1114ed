use Rattle.std.proofs.Common.{ℕ, List, take}
use Rattle.bi_blob.specs.NameSets.{HoldsNames}
use Rattle.bi_blob.specs.Tree.{AreDistinct}
use Rattle.bi_fit.specs.Building.{configuration_names}
use Rattle.bi_fit.specs.NamedImages.{configuration_spec_models}
use Rattle.bi_norm.proofs.ConfigurationChecks.{ConfigurationsPassedTo}
use Rattle.bi_norm.proofs.fit_building.configurations.check_configurations.Given as goal

-- The configurations before this one passed their checks, and the set has their names, which are
-- distinct.
abbrev pub invariant-loop-index : goal.invariant-loop-index
invariant-loop-index l = record {
  names : HoldsNames l.names (configuration_names (take l.index (configuration_spec_models l.configurations)));
  distinct : AreDistinct (configuration_names (take l.index (configuration_spec_models l.configurations)));
  passed : (held : List (List ℕ)) → HoldsNames l.image_names held →
      ConfigurationsPassedTo held (configuration_spec_models l.configurations) l.index;
}
