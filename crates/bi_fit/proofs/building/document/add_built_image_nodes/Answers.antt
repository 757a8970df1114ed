use Rattle.std.proofs.Common.{◌≡◌, ℕ, ◌+◌, ◌≤◌, List, ◌∷◌, map, drop, get_or, Option, Some, sym, ap, subst, ◌∙◌, arith}
use Rattle.std.specs.FinMap.{entries, from_entries}
use Rattle.std.specs.List.{AllByRecursion}
use Rattle.bi_base.proofs.ListMembers.{each-weaker}
use Rattle.bi_blob.specs.Events.{events}
use Rattle.bi_blob.specs.Layout.{longest_text}
use Rattle.bi_fit.specs.NormalNodes.{MayAdd, with_events, next_begin, next_end, AreWithin, HasCellSize}
use Rattle.bi_fit.specs.Text.{alignment_of, blob_alignment, end_after}
use Rattle.bi_fit.proofs.ImageNodes.{within_sized, within_first, within_later}
use Rattle.bi_fit.proofs.NodeEvents.{IsAdding, may_add_first, adding_later}
use Rattle.bi_fit.specs.Building.{built_image_properties}
use Rattle.bi_fit.specs.BuiltNames.{built_names}
use Rattle.bi_fit.specs.Leaves.{leaf_model}
use Rattle.bi_fit.specs.NamedImages.{head_model, named_model, named_models}
use Rattle.bi_fit.specs.BuiltNodes.{built_payloads, built_hash_leaves, built_image_children, built_image_nodes}
use Rattle.bi_fit.specs.declared.document.nodes.Leaf.{Leaf}
use Rattle.bi_fit.proofs.BuiltDocuments.{placed_properties, built_image_node, nodes_later, nodes_at, same_built_names, same_built_image}
use Rattle.bi_fit.proofs.BuiltPayloads.{no_named_image, built_payloads_from, digests_within, digests_at}
use Rattle.bi_fit.proofs.building.document.add_built_image_nodes.Goals as goal

pub bounds-parts-index : goal.bounds-parts-index
bounds-parts-index c =
    digests_within (λ digests. digests.items) c.args.parts.digests.now c.args.parts.plan.algorithms.now c.args.parts.images.now
    c.loop-index.index c.requires.prepared.digests c.loop-index-test.true

pub hash_leaves-requires-clause-digests : goal.hash_leaves-requires-clause-digests
hash_leaves-requires-clause-digests c =
    let images = c.args.parts.images.now in
    let index = c.loop-index.index in (
      (get_or images index no_named_image).payload.now,
      c.deref.ensures.value ∙ ap (λ digests. digests.items) (sym c.index-parts-index.is)
          ∙ digests_at (λ digests. digests.items) c.args.parts.digests.now c.args.parts.plan.algorithms.now images index
          c.index-parts-index.result c.requires.prepared.digests c.loop-index-test.true c.index-parts-index.is,
    )

pub add_image_node-requires : goal.add_image_node-requires
add_image_node-requires c =
    let images = c.args.parts.images.now in
    let algorithms = c.args.parts.plan.algorithms.now in
    let index = c.loop-index.index in
    let head = head_model c.args.parts.head in
    let image = named_model (get_or images index no_named_image) in
    let end = c.loop-index.area.end in
    let target = with_events c.args.doc.now (events (built_image_nodes c.args.form 0 head algorithms (named_models images))) in
    let later = built_image_nodes c.args.form
    (end_after (blob_alignment (alignment_of c.args.form)) end (Some image.payload)) head algorithms
    (named_models (drop (index + 1) images)) in
    let digests = c.deref.ensures.value ∙ ap (λ digests. digests.items) (sym c.index-parts-index.is)
    ∙ digests_at (λ digests. digests.items) c.args.parts.digests.now algorithms images index c.index-parts-index.result
    c.requires.prepared.digests c.loop-index-test.true c.index-parts-index.is in
    let hashes : map leaf_model c.deref-in-loop-index.result.now ≡ built_hash_leaves 1 algorithms image.payload =
    ap (map leaf_model) c.deref-in-loop-index.ensures.value ∙ c.in_ok-hashes.ensures.leaves image.payload digests in
    let same = same_built_image c.loop-index.area.form c.args.form end head algorithms image c.in_ok-image_properties.field-0
    (map leaf_model c.deref-in-loop-index.result.now) c.loop-index.invariant.form c.in_ok-image_properties.ensures hashes in
    let sized : HasCellSize c.args.form (Some image.payload) =
    within_sized c.args.form end (Some image.payload) (built_payloads (named_models (drop (index + 1) images)))
    (subst (AreWithin c.args.form end)
    (built_payloads_from images index no_named_image c.loop-index-test.true) c.loop-index.invariant.within) in
    record {
      names = same_built_names c.loop-index.doc.names c.in_ok-image_properties.field-0
          (from_entries (built_image_properties head image)) c.loop-index.invariant.names c.in_ok-image_properties.ensures;
      small = c.loop-index.invariant.small;
      sized = subst (λ form. HasCellSize form (Some image.payload)) (sym c.loop-index.invariant.form) sized;
      children = subst (AllByRecursion (λ (leaf : Leaf). c.loop-index.doc.names ≡ leaf.properties.names))
          (sym c.deref-in-loop-index.ensures.value)
          (each-weaker (λ (leaf : Leaf). leaf.properties.names ≡ built_names)
          (λ (leaf : Leaf). c.loop-index.doc.names ≡ leaf.properties.names)
          (λ leaf same. c.loop-index.invariant.names ∙ sym same) c.in_ok-hashes.hashes.items c.in_ok-hashes.ensures.same_names);
      may = subst (λ nodes. MayAdd c.loop-index.doc (events nodes)) (sym same)
          (may_add_first c.loop-index.doc target image.name
          (entries (placed_properties c.args.form (next_begin c.args.form end) head image))
          (built_image_children algorithms image.payload) later
          (subst (IsAdding c.loop-index.doc target)
          (nodes_at c.args.form end head algorithms images index no_named_image c.loop-index-test.true) c.loop-index.invariant.adding));
    }

pub loop-index-preserved : goal.loop-index-preserved
loop-index-preserved c =
    let images = c.args.parts.images.now in
    let algorithms = c.args.parts.plan.algorithms.now in
    let index = c.loop-index.index in
    let head = head_model c.args.parts.head in
    let image = named_model (get_or images index no_named_image) in
    let payload : Option (List ℕ) = Some image.payload in
    let target = with_events c.args.doc.now (events (built_image_nodes c.args.form 0 head algorithms (named_models images))) in
    let rest = named_models (drop (index + 1) images) in
    let later = built_image_nodes c.args.form (end_after (blob_alignment (alignment_of c.args.form)) c.loop-index.area.end payload) head
    algorithms rest in
    let adding : IsAdding c.loop-index.doc target (built_image_nodes c.args.form c.loop-index.area.end head algorithms (image ∷ rest)) =
    subst (IsAdding c.loop-index.doc target)
    (nodes_at c.args.form c.loop-index.area.end head algorithms images index no_named_image c.loop-index-test.true)
    c.loop-index.invariant.adding in
    let within : AreWithin c.args.form c.loop-index.area.end (payload ∷ built_payloads rest) =
    subst (AreWithin c.args.form c.loop-index.area.end)
    (built_payloads_from images index no_named_image c.loop-index-test.true) c.loop-index.invariant.within in
    let small : next_end c.args.form c.loop-index.area.end payload ≤ longest_text = within_first c.args.form c.loop-index.area.end payload
    (built_payloads rest) within c.loop-index.invariant.small in
    let at : c.add_image_node.new.area.end ≡ next_end c.args.form c.loop-index.area.end payload =
    let is : next_end c.loop-index.area.form c.loop-index.area.end payload
    ≡ next_end c.args.form c.loop-index.area.end payload = ap
    (λ form. next_end form c.loop-index.area.end payload) c.loop-index.invariant.form in
    omega (arith, c.in_ok-add_image_node.ensures.end) in
    let digests = c.deref.ensures.value ∙ ap (λ digests. digests.items) (sym c.index-parts-index.is)
    ∙ digests_at (λ digests. digests.items) c.args.parts.digests.now algorithms images index c.index-parts-index.result
    c.requires.prepared.digests c.loop-index-test.true c.index-parts-index.is in
    let hashes : map leaf_model c.deref-in-loop-index.result.now ≡ built_hash_leaves 1 algorithms image.payload =
    ap (map leaf_model) c.deref-in-loop-index.ensures.value ∙ c.in_ok-hashes.ensures.leaves image.payload digests in
    let same = same_built_image c.loop-index.area.form c.args.form c.loop-index.area.end head algorithms image
    c.in_ok-image_properties.field-0 (map leaf_model c.deref-in-loop-index.result.now)
    c.loop-index.invariant.form c.in_ok-image_properties.ensures hashes in
    let added : c.add_image_node.new.doc
    ≡ with_events c.loop-index.doc
    (events (built_image_node c.args.form (next_begin c.args.form c.loop-index.area.end) head algorithms image)) =
    c.in_ok-add_image_node.ensures.added ∙ ap (λ nodes. with_events c.loop-index.doc (events nodes)) same in
    rw at (record {
      adding = subst (IsAdding c.add_image_node.new.doc target)
          (nodes_later c.args.form c.loop-index.area.end image.payload head algorithms rest)
          (adding_later c.loop-index.doc target image.name
          (entries (placed_properties c.args.form (next_begin c.args.form c.loop-index.area.end) head image))
          (built_image_children algorithms image.payload) later adding c.add_image_node.new.doc added);
      within = within_later c.args.form c.loop-index.area.end payload (built_payloads rest) within;
      small = small;
      form = c.in_ok-add_image_node.ensures.form ∙ c.loop-index.invariant.form;
      names = ap (λ document. document.names) c.in_ok-add_image_node.ensures.added ∙ c.loop-index.invariant.names;
    })
