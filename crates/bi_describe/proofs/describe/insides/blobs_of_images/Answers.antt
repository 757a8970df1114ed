use Rattle.std.proofs.Common.{◌+◌, map, subst, sym, take, take_all}
use Rattle.bi_fit.specs.Content.{image_model, payloads_of_models}
use Rattle.bi_describe.specs.MadeInsides.{AreBlobsInside}
use Rattle.bi_describe.proofs.BlobLists.{image_next}
use Rattle.bi_describe.proofs.describe.insides.blobs_of_images.Goals as goal

pub loop-image-preserved : goal.loop-image-preserved
loop-image-preserved c =
    subst (AreBlobsInside c.args.limits (payloads_of_models (map image_model (take (c.loop-image.image-index + 1) c.args.images.now))))
    (sym c.in_ok-push.ensures.items)
    (image_next c.args.limits c.args.images.now c.loop-image.image-index _ c.loop-image.blobs.items c.in_ok-blob_of_image.field-0
    c.loop-image-test.true c.loop-image.invariant c.in_ok-blob_of_image.ensures)

pub returns : goal.returns
returns c =
    subst (λ images. AreBlobsInside c.args.limits (payloads_of_models (map image_model images)) c.loop-image.blobs.items)
    (take_all c.loop-image.image-index c.args.images.now c.loop-image-test.false) c.loop-image.invariant
