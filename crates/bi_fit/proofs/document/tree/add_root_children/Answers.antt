use Rattle.std.proofs.Common.{◌≡◌, suc, length, Some, sym, ap, subst, ◌∙◌, arith}
use Rattle.std.specs.Option.{option_map}
use Rattle.std.specs.FinMap.{entries}
use Rattle.bi_blob.specs.Tree.{EachOwn}
use Rattle.bi_blob.specs.Lookups.{siblings}
use Rattle.bi_blob.specs.Events.{events}
use Rattle.bi_fdt.specs.Views.{node_of}
use Rattle.bi_fit.specs.NormalNodes.{with_events, HasDistinctNames, HaveImageNodes, AreImageNodes, payloads_of, properties_by_name}
use Rattle.bi_fit.specs.NormalNodes.{sorted_below, sorted_root_children}
use Rattle.bi_fit.specs.TextNodes.{HaveImagesAfter}
use Rattle.bi_fit.proofs.AddedEvents.{ordered_next, still_ordered_next, HasNextOrder}
use Rattle.bi_fit.proofs.NodeEvents.{nodes_from, nodes_from_first, IsAdding, adding_all, may_add_first, adding_later}
use Rattle.bi_fit.proofs.ImagesPositions.{is_none_before}
use Rattle.bi_fit.proofs.document.tree.add_root_children.Goals as goal

pub loop-next-init : goal.loop-next-init
loop-next-init c =
    let s = node_of c.args.root in
    let all : nodes_from (option_map node_of c.first_child-next.result) ≡ s.children = ap nodes_from c.first_child-next.ensures.child
    ∙ nodes_from_first s.children in
    rw all (record {
      adding = adding_all c.args.doc.now
          (sorted_root_children c.args.parts.changes.hashes c.args.parts.form
          (payloads_of c.args.parts.images.now) c.args.parts.digests.now s.children) c.requires.may;
      order = ordered_next c.args.doc.now.names c.args.parts.order.now c.args.root c.first_child-next.result
          c.first_child-next.ensures.same_table c.requires.order;
      distinct = c.requires.distinct;
      images = c.requires.images;
      position = c.requires.position;
    })

pub add_root_child-requires : goal.add_root_child-requires
add_root_child-requires c =
    let s = node_of c.in-Some.child in
    let payloads = payloads_of c.args.parts.images.now in
    let target = with_events c.args.doc.now
    (events (sorted_root_children c.args.parts.changes.hashes c.args.parts.form payloads c.args.parts.digests.now
    (node_of c.args.root).children)) in
    let here : nodes_from (option_map node_of c.loop-next.next)
    ≡ nodes_from (Some s) = ap (λ next. nodes_from (option_map node_of next)) c.in-Some.is in
    let images : HaveImageNodes (AreImageNodes c.args.parts.changes.hashes c.args.parts.images.now
    c.args.parts.digests.now) (nodes_from (Some s)) =
    subst (HaveImageNodes (AreImageNodes c.args.parts.changes.hashes c.args.parts.images.now c.args.parts.digests.now)) here
    c.loop-next.invariant.images in
    let distinct : EachOwn HasDistinctNames (nodes_from (Some s)) = subst (EachOwn HasDistinctNames) here c.loop-next.invariant.distinct in
    let position : HaveImagesAfter c.loop-next.before_images (nodes_from (Some s)) =
    subst (HaveImagesAfter c.loop-next.before_images) here c.loop-next.invariant.position in
    record {
      images = (images.0, tt);
      named = position.0 ∙ sym (is_none_before c.loop-next.before_images) ∙ sym c.eq.ensures;
      room = c.requires.room;
      order = subst (HasNextOrder c.loop-next.doc.names c.args.parts.order.now) c.in-Some.is c.loop-next.invariant.order;
      distinct = (distinct.0, distinct.1, tt);
      may = may_add_first c.loop-next.doc target s.name (entries (properties_by_name s.own))
          (sorted_below c.args.parts.changes.hashes c.args.parts.form payloads c.args.parts.digests.now s.name s.children)
          (sorted_root_children c.args.parts.changes.hashes c.args.parts.form payloads c.args.parts.digests.now s.later)
          (subst (λ nodes. IsAdding c.loop-next.doc target
          (sorted_root_children c.args.parts.changes.hashes c.args.parts.form payloads c.args.parts.digests.now nodes)) here
          c.loop-next.invariant.adding);
    }

pub loop-next-smaller : goal.loop-next-smaller
loop-next-smaller c =
    let s = node_of c.in-Some.child in
    let before : length (siblings (nodes_from (option_map node_of c.loop-next.next))) ≡ suc (length (siblings s.later)) =
    ap (λ next. length (siblings (nodes_from (option_map node_of next)))) c.in-Some.is in
    let after : length (siblings (nodes_from (option_map node_of c.next_sibling-next.result))) ≡ length (siblings s.later) =
    ap (λ nodes. length (siblings nodes)) (ap nodes_from c.next_sibling-next.ensures.sibling ∙ nodes_from_first s.later) in
    omega arith

pub loop-next-preserved : goal.loop-next-preserved
loop-next-preserved c =
    let s = node_of c.in-Some.child in
    let payloads = payloads_of c.args.parts.images.now in
    let target = with_events c.args.doc.now
    (events (sorted_root_children c.args.parts.changes.hashes c.args.parts.form payloads c.args.parts.digests.now
    (node_of c.args.root).children)) in
    let here : nodes_from (option_map node_of c.loop-next.next)
    ≡ nodes_from (Some s) = ap (λ next. nodes_from (option_map node_of next)) c.in-Some.is in
    let rest : nodes_from (option_map node_of c.next_sibling-next.result)
    ≡ s.later = ap nodes_from c.next_sibling-next.ensures.sibling ∙ nodes_from_first s.later in
    let images : HaveImageNodes (AreImageNodes c.args.parts.changes.hashes c.args.parts.images.now
    c.args.parts.digests.now) (nodes_from (Some s)) =
    subst (HaveImageNodes (AreImageNodes c.args.parts.changes.hashes c.args.parts.images.now c.args.parts.digests.now)) here
    c.loop-next.invariant.images in
    let distinct : EachOwn HasDistinctNames (nodes_from (Some s)) = subst (EachOwn HasDistinctNames) here c.loop-next.invariant.distinct in
    rw rest (record {
      adding = adding_later c.loop-next.doc target s.name (entries (properties_by_name s.own))
          (sorted_below c.args.parts.changes.hashes c.args.parts.form payloads c.args.parts.digests.now s.name s.children)
          (sorted_root_children c.args.parts.changes.hashes c.args.parts.form payloads c.args.parts.digests.now s.later)
          (subst (λ nodes. IsAdding c.loop-next.doc target
          (sorted_root_children c.args.parts.changes.hashes c.args.parts.form payloads c.args.parts.digests.now nodes))
          here c.loop-next.invariant.adding)
          c.add_root_child.new.doc c.in_ok-add_root_child.ensures.added;
      order = still_ordered_next c.args.parts.order.now c.in-Some.child c.next_sibling-next.result c.loop-next.doc c.add_root_child.new.doc
          _ c.in_ok-add_root_child.ensures.added c.next_sibling-next.ensures.same_table
          (subst (HasNextOrder c.loop-next.doc.names c.args.parts.order.now) c.in-Some.is c.loop-next.invariant.order);
      distinct = distinct.2;
      images = images.1;
      position = subst (λ before. HaveImagesAfter before s.later) (sym c.after_one-before_images.ensures)
          (subst (HaveImagesAfter c.loop-next.before_images) here c.loop-next.invariant.position).1;
    })
