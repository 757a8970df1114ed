use Rattle.std.proofs.Common.{◌≡◌, ◌++◌, map, drop}
use Rattle.bi_fit.specs.Content.{image_model, payloads_of_models, AreAtTheirPlaces}
use Rattle.bi_describe.specs.ImagePayloads.{bytes_of_payloads}
use Rattle.bi_describe.proofs.describe.digests.payloads_of.Given as goal

-- The payloads so far and those of the images that are left are all.
abbrev pub invariant-loop-image : goal.invariant-loop-image
invariant-loop-image l =
    let left = map image_model (drop l.image-index l.image-items) in
    record {
      placed : AreAtTheirPlaces l.digests left;
      so_far : bytes_of_payloads l.payloads.items ++ payloads_of_models left ≡ payloads_of_models l.bounded.fit.now.images;
    }
