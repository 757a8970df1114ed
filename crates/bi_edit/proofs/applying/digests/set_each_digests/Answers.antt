use Rattle.std.proofs.Common.{get_or, ◌<◌, length, refl, sym, ◌∙◌, arith}
use Rattle.std.specs.FinMap.{get}
use Rattle.bi_tree.specs.Trees.{by_name}
use Rattle.bi_blob.specs.Tree.{with_each}
use Rattle.bi_fit.specs.Names.{data_name}
use Rattle.bi_fit.specs.Updating.{with_digests_of}
use Rattle.bi_edit.specs.Edits.{with_payload_digests}
use Rattle.bi_plain.proofs.ChangedNodes.{all_changed, numbered_after, one_changed, other_children}
use Rattle.bi_edit.proofs.applying.digests.set_each_digests.Goals as goal

pub returns-in_err-set_image_digests-clause-numbered : goal.returns-in_err-set_image_digests-clause-numbered
returns-in_err-set_image_digests-clause-numbered c names is all =
    numbered_after names c.loop-image.images c.loop-image.image-index c.set_image_digests.new.image c.image-item.result
    (omega (arith, c.loop-image-test.true)) (c.set_image_digests.ensures.numbered names is) (c.loop-image.invariant.1 names is all)

pub loop-image-preserved : goal.loop-image-preserved
loop-image-preserved c =
    let images = c.loop-image.images in
    let index = c.loop-image.image-index in
    let new = c.set_image_digests.new.image in
    let old = get_or images index c.image-item.result in
    let within : index < length images = omega (arith, c.loop-image-test.true) in
    let children = with_digests_of (get (by_name old.own) data_name) (with_each by_name old.children) in (
      one_changed with_payload_digests with_payload_digests images index new c.image-item.result within
          (λ later. other_children new old children c.in_ok-set_image_digests.ensures.name c.in_ok-set_image_digests.ensures.same
          c.in_ok-set_image_digests.ensures.set (with_payload_digests later))
          ∙ c.loop-image.invariant.0,
      λ names is all. numbered_after names images index new c.image-item.result within (c.set_image_digests.ensures.numbered names is)
          (c.loop-image.invariant.1 names is all),
    )

pub returns-clause-set : goal.returns-clause-set
returns-clause-set c =
    sym (all_changed with_payload_digests refl c.loop-image.image-index c.loop-image.images (omega (arith, c.loop-image-test.false)))
    ∙ c.loop-image.invariant.0
