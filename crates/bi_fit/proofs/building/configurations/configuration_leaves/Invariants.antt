use Rattle.std.proofs.Common.{◌≡◌, map, take}
use Rattle.std.specs.List.{AllByRecursion}
use Rattle.bi_fit.specs.BuiltNames.{built_names}
use Rattle.bi_fit.specs.BuiltNodes.{built_configuration_leaves}
use Rattle.bi_fit.specs.Leaves.{leaf_model}
use Rattle.bi_fit.specs.NamedImages.{head_model, configuration_spec_models}
use Rattle.bi_fit.specs.declared.document.nodes.Leaf.{Leaf}
use Rattle.bi_fit.proofs.building.configurations.configuration_leaves.Given as goal

-- The nodes of the configurations before this one.
abbrev pub invariant-loop-index : goal.invariant-loop-index
invariant-loop-index l = record {
  leaves : map leaf_model l.leaves.items
      ≡ built_configuration_leaves (head_model l.head) (configuration_spec_models (take l.index l.configurations));
  same_names : AllByRecursion (λ (leaf : Leaf). leaf.properties.names ≡ built_names) l.leaves.items;
}
