use Rattle.std.proofs.Common.{◌≡◌, take}
use Rattle.bi_base.specs.Slices.{bytes_of}
use Rattle.bi_fit.specs.Building.{names_of_type, type_name}
use Rattle.bi_fit.specs.NamedImages.{named_models}
use Rattle.bi_fit.proofs.building.by_types.names_of_type.Given as goal

-- The names of the images before this one with the type.
abbrev pub invariant-loop-image : goal.invariant-loop-image
invariant-loop-image l =
    bytes_of l.names.items ≡ names_of_type (type_name l.key) (named_models (take l.image-index l.images))
