use Rattle.std.proofs.Common.{get_or, refl, sym, set, ◌+◌, subst, ◌∙◌, arith}
use Rattle.std.proofs.lemmas.List.{set-get_or}
use Rattle.std.proofs.lemmas.Result.{on_ok_weaker}
use Rattle.bi_blob.specs.Tree.{with_each}
use Rattle.bi_fit.specs.NormalNodes.{payloads_of}
use Rattle.bi_tree.specs.Trees.{by_name}
use Rattle.bi_plain.specs.PlainNodes.{AreNumberedNodes, models_by_name, with_own_payloads}
use Rattle.bi_plain.proofs.ChangedNodes.{all_changed, changed_below, images_here, no_images_here, numbered_after, one_changed}
use Rattle.bi_plain.proofs.ChangedNodes.{other_children, others_stay}
use Rattle.bi_plain.proofs.payloads.set_payloads_among.Goals as goal

pub returns-then-has_images-clause-set : goal.returns-then-has_images-clause-set
returns-then-has_images-clause-set c =
    let nodes = c.loop-node.nodes in
    let index = c.loop-node.node-index in
    let new = c.set_images_payloads.new.node in
    let old = get_or nodes index c.node-item.result in
    let change = with_own_payloads (payloads_of c.args.images.now) in
    on_ok_weaker c.set_images_payloads.result
    (λ is.
    sym (others_stay (index + 1) (models_by_name (set nodes index new)))
    ∙ one_changed (changed_below change) (λ others. others) nodes index new c.node-item.result (omega (arith, c.loop-node-test.true))
    (λ later. other_children new old (change (with_each by_name old.children))
    c.set_images_payloads.ensures.name c.set_images_payloads.ensures.same is later
    ∙ images_here change old later (sym c.has_images.ensures ∙ c.if-has_images.true))
    ∙ c.loop-node.invariant.0)
    c.set_images_payloads.ensures.set

pub returns-then-has_images-clause-numbered : goal.returns-then-has_images-clause-numbered
returns-then-has_images-clause-numbered c names is all =
    numbered_after names c.loop-node.nodes c.loop-node.node-index c.set_images_payloads.new.node c.node-item.result
    (omega (arith, c.loop-node-test.true)) (c.set_images_payloads.ensures.numbered names is)
    (subst (AreNumberedNodes names) (sym c.loop-node.invariant.1) all)

pub loop-node-preserved : goal.loop-node-preserved
loop-node-preserved c =
    let nodes = c.loop-node.nodes in
    let index = c.loop-node.node-index in
    let old = get_or nodes index c.node-item.result in
    let change = with_own_payloads (payloads_of c.args.images.now) in (
      one_changed (changed_below change) (changed_below change) nodes index old c.node-item.result (omega (arith, c.loop-node-test.true))
          (λ later. no_images_here change old later (sym c.has_images.ensures ∙ c.if-has_images.false))
          ∙ c.loop-node.invariant.0,
      set-get_or nodes index c.node-item.result ∙ c.loop-node.invariant.1,
    )

pub returns-clause-set : goal.returns-clause-set
returns-clause-set c =
    sym (all_changed (changed_below (with_own_payloads (payloads_of c.args.images.now))) refl c.loop-node.node-index c.loop-node.nodes
    (omega (arith, c.loop-node-test.false)))
    ∙ c.loop-node.invariant.0
