use Rattle.std.proofs.Common.{◌++◌, List, Option, Some, [], ap, append-nil, map, subst, sym, ◌∙◌}
use Rattle.bi_fdt.specs.Content.{Blob}
use Rattle.bi_legacy.specs.PlacedParts.{PartModel, placed_parts}
use Rattle.bi_describe.specs.MadeInsides.{AreBlobsInside}
use Rattle.bi_describe.proofs.BlobLists.{has_blob, part_more}
use Rattle.bi_describe.proofs.describe.insides.blobs_of_parts.Goals as goal

pub loop-part-init : goal.loop-part-init
loop-part-init c = λ later are.
    subst (λ (blobs : List (Option Blob)). AreBlobsInside c.args.limits
    (map Some (map (λ (part : PartModel). part.bytes) (placed_parts c.args.image.now.image))) (blobs ++ later))
    (sym c.in_ok-blobs.ensures.items)
    (subst (λ parts. AreBlobsInside c.args.limits (map Some (map (λ (part : PartModel). part.bytes) parts)) later)
    (c.into_iter-part-iterator.ensures.into_iter_gives ∙ c.parts-part-items.ensures.parts) are)

pub loop-part-preserved : goal.loop-part-preserved
loop-part-preserved c = λ later are.
    let all = map Some (map (λ (part : PartModel). part.bytes) (placed_parts c.args.image.now.image)) in
    let blobs = c.loop-part.blobs.items in
    subst (λ (blobs : List (Option Blob)). AreBlobsInside c.args.limits all (blobs ++ later)) (sym c.in_ok-push.ensures.items)
    (part_more c.args.limits all (map Some (map (λ (part : PartModel). part.bytes) c.next.new.self)) c.in-Some.part.bytes.now blobs
    c.in_ok-read_blob.field-0
    (has_blob c.args.limits c.in-Some.part.bytes.now c.in_ok-read_blob.field-0 c.in_ok-read_blob.ensures.some
    c.in_ok-read_blob.ensures.none)
    (subst (λ left. (later : List (Option Blob)) →
    AreBlobsInside c.args.limits (map Some (map (λ (part : PartModel). part.bytes) left)) later →
    AreBlobsInside c.args.limits all (blobs ++ later)) c.in-Some.ensures.steps c.loop-part.invariant) later are)

pub returns : goal.returns
returns c =
    let blobs = c.loop-part.blobs.items in
    subst (λ payloads. AreBlobsInside c.args.limits (map Some payloads) blobs)
    (ap (map (λ (part : PartModel). part.bytes)) (sym c.parts-part-items.ensures.parts) ∙ c.parts-part-items.ensures.bytes)
    (subst (AreBlobsInside c.args.limits (map Some (map (λ (part : PartModel). part.bytes) (placed_parts c.args.image.now.image))))
    (append-nil blobs)
    (c.loop-part.invariant [] (subst (λ left. AreBlobsInside c.args.limits (map Some (map (λ (part : PartModel). part.bytes) left)) [])
    (sym c.in-None.ensures.steps.0) tt)))
