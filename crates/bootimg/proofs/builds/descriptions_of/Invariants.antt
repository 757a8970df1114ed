use Rattle.std.proofs.Common.{◌≡◌, map, take}
use Rattle.bi_norm.specs.FitBuilding.{descriptions_models}
use Rattle.bootimg.specs.OwnTexts.{text_named}
use Rattle.bootimg.proofs.builds.descriptions_of.Given as goal

-- The descriptions of the images so far.
abbrev pub invariant-loop-image : goal.invariant-loop-image
invariant-loop-image l = descriptions_models l.found.items
    ≡ map (λ image. text_named l.texts image.name.now) (take l.image-index l.images)
