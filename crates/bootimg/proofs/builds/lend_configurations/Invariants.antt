use Rattle.std.proofs.Common.{◌≡◌, take}
use Rattle.bi_fit.specs.NamedImages.{configuration_spec_models}
use Rattle.bootimg.specs.OwnTexts.{planned_configurations}
use Rattle.bootimg.proofs.builds.lend_configurations.Given as goal

-- The configurations so far were lent.
abbrev pub invariant-loop-index : goal.invariant-loop-index
invariant-loop-index l =
    configuration_spec_models l.lent.items ≡ planned_configurations l.texts (take l.index l.words)
