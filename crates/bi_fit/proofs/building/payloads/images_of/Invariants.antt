use Rattle.std.proofs.Common.{◌≡◌, map, take}
use Rattle.bi_fit.specs.NamedImages.{image_to_place}
use Rattle.bi_fit.proofs.building.payloads.images_of.Given as goal

-- The images before this one.
abbrev pub invariant-loop-image : goal.invariant-loop-image
invariant-loop-image l = l.list.items ≡ map image_to_place (take l.image-index l.images)
