use Rattle.std.proofs.Common.{map, take}
use Rattle.bi_fit.specs.Content.{image_model, payloads_of_models}
use Rattle.bi_describe.specs.MadeInsides.{AreBlobsInside}
use Rattle.bi_describe.proofs.describe.insides.blobs_of_images.Given as goal

-- The blobs of the images before this one.
abbrev pub invariant-loop-image : goal.invariant-loop-image
invariant-loop-image l =
    AreBlobsInside l.limits (payloads_of_models (map image_model (take l.image-index l.images))) l.blobs.items
