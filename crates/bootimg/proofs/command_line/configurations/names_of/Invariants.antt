use Rattle.std.proofs.Common.{take}
use Rattle.bi_blob.specs.NameSets.{HoldsNames}
use Rattle.bi_norm.specs.FitBuilding.{names_of_specs}
use Rattle.bootimg.proofs.command_line.configurations.names_of.Given as goal

-- The set has the names so far.
abbrev pub invariant-loop-image : goal.invariant-loop-image
invariant-loop-image l = HoldsNames l.names (names_of_specs (take l.image-index l.images))
