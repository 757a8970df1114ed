use Rattle.std.proofs.Common.{◌≡◌, map, take}
use Rattle.bi_fit.specs.BuiltNodes.{built_digests}
use Rattle.bi_fit.proofs.building.digests.digest_payloads.Given as goal

-- The digests of the payloads before this image.
abbrev pub invariant-loop-image : goal.invariant-loop-image
invariant-loop-image l =
    map (λ each. each.items) l.digests.items
    ≡ map (λ image. built_digests l.algorithms image.payload.now) (take l.image-index l.images)
