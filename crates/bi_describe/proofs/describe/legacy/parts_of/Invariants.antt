use Rattle.std.proofs.Common.{◌≡◌, ◌++◌, map}
use Rattle.bi_legacy.specs.PlacedParts.{PartModel, placed_parts}
use Rattle.bi_describe.specs.MadeParts.{bytes_of_parts}
use Rattle.bi_describe.proofs.describe.legacy.parts_of.Given as goal

abbrev pub invariant-loop-part : goal.invariant-loop-part
invariant-loop-part l =
    bytes_of_parts l.parts.items ++ map (λ (part : PartModel). part.bytes) l.part-iterator
    ≡ map (λ (part : PartModel). part.bytes) (placed_parts l.image.image)
