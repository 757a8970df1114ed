use Rattle.std.proofs.Common.{map, take}
use Rattle.std.specs.List.{AllByRecursion}
use Rattle.bi_fit.specs.NamedImages.{configuration_spec_models}
use Rattle.bi_norm.specs.BuildChecks.{HasTextValues}
use Rattle.bi_norm.specs.FitBuilding.{own_texts_of_configuration}
use Rattle.bi_norm.proofs.OwnTexts.{TextsPassedTo}
use Rattle.bi_norm.proofs.fit_building.texts.check_configuration_texts.Given as goal

-- The texts of the configurations before this one passed.
abbrev pub invariant-loop-index : goal.invariant-loop-index
invariant-loop-index l = record {
  passed : TextsPassedTo (map own_texts_of_configuration (configuration_spec_models l.configurations)) l.index;
  texts : AllByRecursion HasTextValues (configuration_spec_models (take l.index l.configurations));
}
