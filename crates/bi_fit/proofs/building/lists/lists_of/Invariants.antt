use Rattle.std.proofs.Common.{take}
use Rattle.std.specs.List.{AllZip}
use Rattle.bi_fit.specs.BuiltNodes.{AreListValues}
use Rattle.bi_fit.specs.NamedImages.{configuration_spec_models}
use Rattle.bi_fit.proofs.building.lists.lists_of.Given as goal

-- The lists of the configurations before this one.
abbrev pub invariant-loop-configuration : goal.invariant-loop-configuration
invariant-loop-configuration l =
    AllZip AreListValues (configuration_spec_models (take l.configuration-index l.configurations)) l.lists.items
