use Rattle.std.proofs.Common.{◌≡◌, suc, length, refl, Some, ap, subst, ◌∙◌, arith}
use Rattle.std.specs.Option.{option_map}
use Rattle.std.specs.FinMap.{entries}
use Rattle.bi_blob.specs.Tree.{EachOwn}
use Rattle.bi_blob.specs.Lookups.{siblings}
use Rattle.bi_blob.specs.Events.{events}
use Rattle.bi_fdt.specs.Views.{node_of}
use Rattle.bi_fit.specs.TakenDigests.{algorithm_if_hashed, after_digest, HaveDigests, after_digests}
use Rattle.bi_fit.specs.NormalNodes.{with_events, HasDistinctNames, properties_by_name, nodes_by_name, sorted_nodes, sorted_image_children}
use Rattle.bi_fit.proofs.AddedEvents.{ordered_next, still_ordered_next, HasNextOrder}
use Rattle.bi_fit.proofs.NodeEvents.{nodes_from, nodes_from_first, IsAdding, adding_all, may_add_first, adding_later}
use Rattle.bi_fit.proofs.ImageNodes.{child_properties}
use Rattle.bi_fit.proofs.document.hash_nodes.add_children_with_digests.Goals as goal

pub loop-next-init : goal.loop-next-init
loop-next-init c =
    let s = node_of c.args.node in
    let all : nodes_from (option_map node_of c.first_child-next.result) ≡ s.children = ap nodes_from c.first_child-next.ensures.child
    ∙ nodes_from_first s.children in
    rw all (record {
      adding = adding_all c.args.doc.now (sorted_image_children c.args.hashed c.args.digests.now s.children) c.requires.may;
      order = ordered_next c.args.doc.now.names c.args.order.now c.args.node c.first_child-next.result
          c.first_child-next.ensures.same_table c.requires.order;
      distinct = c.requires.distinct;
      has_digests = c.requires.digests;
      same_end = refl;
    })

pub add_child_with_digest-requires : goal.add_child_with_digest-requires
add_child_with_digest-requires c =
    let s = node_of c.in-Some.child in
    let target = with_events c.args.doc.now
    (events (sorted_image_children c.args.hashed c.args.digests.now (node_of c.args.node).children)) in
    let here : nodes_from (option_map node_of c.loop-next.next)
    ≡ nodes_from (Some s) = ap (λ next. nodes_from (option_map node_of next)) c.in-Some.is in
    let distinct : EachOwn HasDistinctNames (nodes_from (Some s)) = subst (EachOwn HasDistinctNames) here c.loop-next.invariant.distinct in
    let has : HaveDigests c.args.hashed c.loop-next.left.now (nodes_by_name (nodes_from (Some s))) =
    subst (λ nodes. HaveDigests c.args.hashed c.loop-next.left.now (nodes_by_name nodes)) here c.loop-next.invariant.has_digests in
    let rest = after_digest (algorithm_if_hashed c.args.hashed s.name (properties_by_name s.own)) c.loop-next.left.now in
    record {
      order = subst (HasNextOrder c.loop-next.doc.names c.args.order.now) c.in-Some.is c.loop-next.invariant.order;
      digests = (has.0, tt);
      distinct = (distinct.0, distinct.1, tt);
      may = may_add_first c.loop-next.doc target s.name (entries (child_properties c.args.hashed c.loop-next.left.now s))
          (sorted_nodes s.children) (sorted_image_children c.args.hashed rest s.later)
          (subst (λ nodes. IsAdding c.loop-next.doc target (sorted_image_children c.args.hashed c.loop-next.left.now nodes)) here
          c.loop-next.invariant.adding);
    }

pub loop-next-smaller : goal.loop-next-smaller
loop-next-smaller c =
    let s = node_of c.in-Some.child in
    let before : length (siblings (nodes_from (option_map node_of c.loop-next.next))) ≡ suc (length (siblings s.later)) =
    ap (λ next. length (siblings (nodes_from (option_map node_of next)))) c.in-Some.is in
    let after : length (siblings (nodes_from (option_map node_of c.next_sibling-next.result))) ≡ length (siblings s.later) =
    ap (λ nodes. length (siblings nodes)) (ap nodes_from c.next_sibling-next.ensures.sibling ∙ nodes_from_first s.later) in
    omega arith

pub loop-next-preserved : goal.loop-next-preserved
loop-next-preserved c =
    let s = node_of c.in-Some.child in
    let target = with_events c.args.doc.now
    (events (sorted_image_children c.args.hashed c.args.digests.now (node_of c.args.node).children)) in
    let here : nodes_from (option_map node_of c.loop-next.next)
    ≡ nodes_from (Some s) = ap (λ next. nodes_from (option_map node_of next)) c.in-Some.is in
    let rest : nodes_from (option_map node_of c.next_sibling-next.result)
    ≡ s.later = ap nodes_from c.next_sibling-next.ensures.sibling ∙ nodes_from_first s.later in
    let distinct : EachOwn HasDistinctNames (nodes_from (Some s)) = subst (EachOwn HasDistinctNames) here c.loop-next.invariant.distinct in
    let has : HaveDigests c.args.hashed c.loop-next.left.now (nodes_by_name (nodes_from (Some s))) =
    subst (λ nodes. HaveDigests c.args.hashed c.loop-next.left.now (nodes_by_name nodes)) here c.loop-next.invariant.has_digests in
    let same_end : after_digests c.args.hashed c.loop-next.left.now (nodes_by_name (nodes_from (Some s)))
    ≡ after_digests c.args.hashed c.args.digests.now (nodes_by_name (node_of c.args.node).children) =
    subst (λ nodes. after_digests c.args.hashed c.loop-next.left.now (nodes_by_name nodes)
    ≡ after_digests c.args.hashed c.args.digests.now (nodes_by_name (node_of c.args.node).children)) here c.loop-next.invariant.same_end in
    let left = after_digest (algorithm_if_hashed c.args.hashed s.name (properties_by_name s.own)) c.loop-next.left.now in
    rw (rest, c.in_ok-left.ensures.left) (record {
      adding = adding_later c.loop-next.doc target s.name (entries (child_properties c.args.hashed c.loop-next.left.now s))
          (sorted_nodes s.children) (sorted_image_children c.args.hashed left s.later)
          (subst (λ nodes. IsAdding c.loop-next.doc target (sorted_image_children c.args.hashed c.loop-next.left.now nodes))
          here c.loop-next.invariant.adding)
          c.add_child_with_digest.new.doc c.in_ok-left.ensures.added;
      order = still_ordered_next c.args.order.now c.in-Some.child c.next_sibling-next.result c.loop-next.doc c.add_child_with_digest.new.doc
          _ c.in_ok-left.ensures.added c.next_sibling-next.ensures.same_table
          (subst (HasNextOrder c.loop-next.doc.names c.args.order.now) c.in-Some.is c.loop-next.invariant.order);
      distinct = distinct.2;
      has_digests = has.1;
      same_end = same_end;
    })
