use Rattle.std.proofs.Common.{◌++◌, Some, map}
use Rattle.bi_legacy.specs.PlacedParts.{PartModel, placed_parts}
use Rattle.bi_describe.specs.MadeInsides.{AreBlobsInside}
use Rattle.bi_describe.proofs.describe.insides.blobs_of_parts.Given as goal

-- If those of the parts that are left come next, these are the blobs of all.
abbrev pub invariant-loop-part : goal.invariant-loop-part
invariant-loop-part l =
    (later : _) → AreBlobsInside l.limits (map Some (map (λ (part : PartModel). part.bytes) l.part-iterator)) later →
    AreBlobsInside l.limits (map Some (map (λ (part : PartModel). part.bytes) (placed_parts l.image.image))) (l.blobs.items ++ later)
