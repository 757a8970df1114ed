use Rattle.std.proofs.Common.{get_or, refl, sym, set, ◌+◌, subst, ◌∙◌, arith}
use Rattle.std.proofs.lemmas.List.{set-get_or}
use Rattle.std.proofs.lemmas.Result.{on_ok_weaker}
use Rattle.bi_tree.specs.Trees.{by_name}
use Rattle.bi_blob.specs.Tree.{with_each}
use Rattle.bi_edit.specs.Edits.{with_payload_digests}
use Rattle.bi_plain.specs.PlainNodes.{AreNumberedNodes, models_by_name}
use Rattle.bi_plain.proofs.ChangedNodes.{all_changed, changed_below, images_here, no_images_here, numbered_after, one_changed}
use Rattle.bi_plain.proofs.ChangedNodes.{other_children, others_stay}
use Rattle.bi_edit.proofs.applying.digests.set_digests_among.Goals as goal

pub returns-then-has_images-clause-set : goal.returns-then-has_images-clause-set
returns-then-has_images-clause-set c =
    let nodes = c.loop-node.nodes in
    let index = c.loop-node.node-index in
    let new = c.set_images_digests.new.images in
    let old = get_or nodes index c.node-item.result in
    on_ok_weaker c.set_images_digests.result
    (λ is.
    sym (others_stay (index + 1) (models_by_name (set nodes index new)))
    ∙ one_changed (changed_below with_payload_digests) (λ others. others) nodes index new c.node-item.result
    (omega (arith, c.loop-node-test.true))
    (λ later. other_children new old (with_payload_digests (with_each by_name old.children))
    c.set_images_digests.ensures.name c.set_images_digests.ensures.same is later
    ∙ images_here with_payload_digests old later (sym c.has_images.ensures ∙ c.if-has_images.true))
    ∙ c.loop-node.invariant.0)
    c.set_images_digests.ensures.set

pub returns-then-has_images-clause-numbered : goal.returns-then-has_images-clause-numbered
returns-then-has_images-clause-numbered c names is all =
    numbered_after names c.loop-node.nodes c.loop-node.node-index c.set_images_digests.new.images c.node-item.result
    (omega (arith, c.loop-node-test.true)) (c.set_images_digests.ensures.numbered names is)
    (subst (AreNumberedNodes names) (sym c.loop-node.invariant.1) all)

pub loop-node-preserved : goal.loop-node-preserved
loop-node-preserved c =
    let nodes = c.loop-node.nodes in
    let index = c.loop-node.node-index in
    let old = get_or nodes index c.node-item.result in (
      one_changed (changed_below with_payload_digests) (changed_below with_payload_digests) nodes index old c.node-item.result
          (omega (arith, c.loop-node-test.true))
          (λ later. no_images_here with_payload_digests old later (sym c.has_images.ensures ∙ c.if-has_images.false))
          ∙ c.loop-node.invariant.0,
      set-get_or nodes index c.node-item.result ∙ c.loop-node.invariant.1,
    )

pub returns-clause-set : goal.returns-clause-set
returns-clause-set c =
    sym (all_changed (changed_below with_payload_digests) refl c.loop-node.node-index c.loop-node.nodes
    (omega (arith, c.loop-node-test.false)))
    ∙ c.loop-node.invariant.0
