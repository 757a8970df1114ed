use Rattle.std.proofs.Common.{◌≡◌, ℕ, ◌≤◌, List, ◌∷◌, Option, Some, sym, ap, subst, ◌∙◌, arith}
use Rattle.std.specs.Option.{option_map}
use Rattle.std.specs.FinMap.{entries}
use Rattle.bi_blob.specs.Events.{events}
use Rattle.bi_blob.specs.Layout.{longest_text}
use Rattle.bi_fdt.specs.Views.{node_of}
use Rattle.bi_fit.specs.Text.{alignment_of, blob_alignment, end_after}
use Rattle.bi_fit.specs.Content.{image_model}
use Rattle.bi_fit.specs.ImagesWithNodes.{AreAllLeft}
use Rattle.bi_fit.specs.TakenDigests.{is_hashed, after_digests, HaveDigests}
use Rattle.bi_fit.specs.NormalNodes.{MayAdd, with_events, HasCellSize, next_end, payloads_of, nodes_by_name}
use Rattle.bi_fit.specs.NormalNodes.{image_properties, next_begin}
use Rattle.bi_fit.specs.NormalNodes.{sorted_image_children, sorted_images}
use Rattle.bi_fit.proofs.AddedEvents.{ordered_next, still_ordered_next, HasNextOrder}
use Rattle.bi_fit.proofs.NodeEvents.{nodes_from, nodes_from_first, IsAdding, adding_all, may_add_first, adding_later}
use Rattle.bi_fit.proofs.ImageNodes.{sorted_image, images-later, within_sized, within_first, within_later, added_is_sorted}
use Rattle.bi_fit.proofs.document.image_nodes.add_image_nodes.Goals as goal

pub loop-child-init : goal.loop-child-init
loop-child-init c =
    let s = node_of c.args.node in
    let begins = subst (AreAllLeft c.args.node c.args.parts.images.now) (sym c.into_iter-child-iterator.ensures.into_iter_gives)
    c.children-child-items.ensures in
    let all : nodes_from (option_map node_of c.into_iter-child-iterator.result.next)
    ≡ s.children = ap nodes_from begins.child ∙ nodes_from_first s.children in
    rw (all, begins.same_images, c.new-area.ensures.end) (record {
      left = record {
        adding = adding_all c.args.doc.now
            (sorted_images c.args.parts.changes.hashes c.args.parts.form 0
            (payloads_of c.args.parts.images.now) c.args.parts.digests.now s.children) c.requires.may;
        distinct = c.requires.distinct;
        has_digests = c.requires.images.has_digests;
        within = c.requires.room;
        small = omega arith;
      };
      order = ordered_next c.args.doc.now.names c.args.parts.order.now c.args.node
          c.into_iter-child-iterator.result.next begins.same_table c.requires.order;
      form = c.new-area.ensures.form;
    })

pub from_node-requires-clause-order : goal.from_node-requires-clause-order
from_node-requires-clause-order c =
    (subst (HasNextOrder c.loop-child.doc.names c.args.parts.order.now) c.in-Some.ensures.steps.node c.loop-child.invariant.order).is_order

pub add_image_node-requires : goal.add_image_node-requires
add_image_node-requires c =
    let s = node_of c.in-Some.child in
    let form = c.args.parts.form in
    let hashes = c.args.parts.changes.hashes in
    let left = c.loop-child.left.now in
    let end = c.loop-child.area.end in
    let steps = c.in-Some.ensures.steps in
    let payload : Option (List ℕ) = (image_model c.in-Some.image.now).payload in
    let later = payloads_of c.next.new.self.images.now in
    let payloads : payloads_of c.loop-child.child-iterator.images.now ≡ payload ∷ later = ap payloads_of steps.images in
    let here : nodes_from (option_map node_of c.loop-child.child-iterator.next)
    ≡ nodes_from (Some s) = ap (λ next. nodes_from (option_map node_of next)) steps.node in
    let order = subst (HasNextOrder c.loop-child.doc.names c.args.parts.order.now) steps.node c.loop-child.invariant.order in
    let are = rw (here, payloads) at c.loop-child.invariant.left in
    let same = added_is_sorted c.loop-child.area.form form end payload left s c.name.result.now c.in_ok-from_node.field-0.by_name
    c.is_hashed.result (is_hashed hashes payload) c.loop-child.invariant.form c.name.ensures
    (ap (λ m. m.by_name) c.in_ok-from_node.ensures) c.is_hashed.ensures in
    record {
      names = order.same_names ∙ sym (ap (λ m. m.names) c.in_ok-from_node.ensures);
      small = are.small;
      sized = subst (λ form. HasCellSize form payload) (sym c.loop-child.invariant.form) (within_sized form end payload later are.within);
      children = (
        order,
        subst (λ hashed. HaveDigests hashed left (nodes_by_name s.children)) (sym c.is_hashed.ensures) are.has_digests.0,
        are.distinct.1,
      );
      may = subst (λ nodes. MayAdd c.loop-child.doc (events nodes)) (sym same)
          (may_add_first c.loop-child.doc _ s.name
          (entries (image_properties form (next_begin form end) payload s.own))
          (sorted_image_children (is_hashed hashes payload) left s.children)
          (sorted_images hashes form (end_after (blob_alignment (alignment_of form)) end payload) later
          (after_digests (is_hashed hashes payload) left (nodes_by_name s.children)) s.later) are.adding);
    }

pub loop-child-preserved : goal.loop-child-preserved
loop-child-preserved c =
    let s = node_of c.in-Some.child in
    let form = c.args.parts.form in
    let hashes = c.args.parts.changes.hashes in
    let left = c.loop-child.left.now in
    let end = c.loop-child.area.end in
    let steps = c.in-Some.ensures.steps in
    let payload : Option (List ℕ) = (image_model c.in-Some.image.now).payload in
    let later = payloads_of c.next.new.self.images.now in
    let payloads : payloads_of c.loop-child.child-iterator.images.now ≡ payload ∷ later = ap payloads_of steps.images in
    let here : nodes_from (option_map node_of c.loop-child.child-iterator.next)
    ≡ nodes_from (Some s) = ap (λ next. nodes_from (option_map node_of next)) steps.node in
    let rest : nodes_from (option_map node_of c.next.new.self.next) ≡ s.later = ap nodes_from steps.sibling ∙ nodes_from_first s.later in
    let are = rw (here, payloads) at c.loop-child.invariant.left in
    let small : next_end form end payload ≤ longest_text = within_first form end payload later are.within are.small in
    let at : c.add_image_node.new.area.end ≡ next_end form end payload =
    let is : next_end c.loop-child.area.form end payload
    ≡ next_end form end payload = ap (λ form. next_end form end payload) c.loop-child.invariant.form in
    omega (arith, c.in_ok-left.ensures.end) in
    let same = added_is_sorted c.loop-child.area.form form end payload left s c.name.result.now c.in_ok-from_node.field-0.by_name
    c.is_hashed.result (is_hashed hashes payload) c.loop-child.invariant.form c.name.ensures
    (ap (λ m. m.by_name) c.in_ok-from_node.ensures) c.is_hashed.ensures in
    let added : c.add_image_node.new.doc
    ≡ with_events c.loop-child.doc (events
    (sorted_image (image_properties form (next_begin form end) payload s.own) (is_hashed hashes payload) left s)) =
    c.in_ok-left.ensures.added ∙ ap (λ nodes. with_events c.loop-child.doc (events nodes)) same in
    let after : c.in_ok-left.left.now ≡ after_digests (is_hashed hashes payload) left (nodes_by_name s.children) =
    c.in_ok-left.ensures.left ∙ ap (λ hashed. after_digests hashed left (nodes_by_name s.children)) c.is_hashed.ensures in
    rw (rest, at, after) (record {
      left = record {
        adding = subst (IsAdding c.add_image_node.new.doc _)
            (images-later hashes form end payload later (after_digests (is_hashed hashes payload) left (nodes_by_name s.children)) s.later)
            (adding_later c.loop-child.doc _ s.name
            (entries (image_properties form (next_begin form end) payload s.own))
            (sorted_image_children (is_hashed hashes payload) left s.children)
            (sorted_images hashes form (end_after (blob_alignment (alignment_of form)) end payload) later
            (after_digests (is_hashed hashes payload) left (nodes_by_name s.children)) s.later)
            are.adding c.add_image_node.new.doc added);
        distinct = are.distinct.2;
        has_digests = are.has_digests.1;
        within = within_later form end payload later are.within;
        small = small;
      };
      order = still_ordered_next c.args.parts.order.now c.in-Some.child c.next.new.self.next c.loop-child.doc c.add_image_node.new.doc
          _ c.in_ok-left.ensures.added steps.same_table
          (subst (HasNextOrder c.loop-child.doc.names c.args.parts.order.now) steps.node c.loop-child.invariant.order);
      form = c.in_ok-left.ensures.form ∙ c.loop-child.invariant.form;
    })
