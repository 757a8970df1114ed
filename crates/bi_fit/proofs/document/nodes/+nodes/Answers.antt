use Rattle.std.proofs.Common.{◌≡◌, ◌+◌, ◌≤◌, suc, length, max, Some, ap, subst, ◌∙◌, arith}
use Rattle.std.specs.Option.{option_map}
use Rattle.std.specs.FinMap.{entries}
use Rattle.bi_blob.specs.Tree.{EachOwn, depth, node, none}
use Rattle.bi_blob.specs.Lookups.{siblings}
use Rattle.bi_blob.specs.Events.{events}
use Rattle.bi_fdt.specs.Views.{node_of}
use Rattle.bi_fit.specs.NormalNodes.{with_events, HasDistinctNames, begin_events, properties_by_name, sorted_nodes}
use Rattle.bi_fit.proofs.AddedEvents.{ordered_next, still_ordered, still_ordered_next, HasNextOrder, may_begin, may_have_children, may_end}
use Rattle.bi_fit.proofs.NodeEvents.{nodes_from, nodes_from_first, IsAdding, adding_all, may_add_first, adding_later}
use Rattle.bi_fit.proofs.document.nodes.+nodes.Goals as goal

pub add_children-loop-next-init : goal.add_children-loop-next-init
add_children-loop-next-init t c =
    let s = node_of c.args.node in
    let all : nodes_from (option_map node_of c.first_child-next.result) ≡ s.children = ap nodes_from c.first_child-next.ensures.child
    ∙ nodes_from_first s.children in
    rw all (record {
      adding = adding_all c.args.doc.now (sorted_nodes s.children) c.requires.may;
      order = ordered_next c.args.doc.now.names c.args.order.now c.args.node c.first_child-next.result
          c.first_child-next.ensures.same_table c.requires.order;
      distinct = c.requires.distinct;
      shallow = omega arith;
    })

pub add_children-add_node-requires : goal.add_children-add_node-requires
add_children-add_node-requires t c =
    let s = node_of c.in-Some.child in
    let target = with_events c.args.doc.now (events (sorted_nodes (node_of c.args.node).children)) in
    let here : nodes_from (option_map node_of c.loop-next.next)
    ≡ nodes_from (Some s) = ap (λ next. nodes_from (option_map node_of next)) c.in-Some.is in
    let adding : IsAdding c.loop-next.doc target (sorted_nodes (nodes_from (Some s))) = subst
    (λ nodes. IsAdding c.loop-next.doc target (sorted_nodes nodes)) here c.loop-next.invariant.adding in
    let distinct : EachOwn HasDistinctNames (nodes_from (Some s)) = subst (EachOwn HasDistinctNames) here c.loop-next.invariant.distinct in
    let shallow : max (depth s.children + 1) (depth s.later) ≤ depth (node_of c.args.node).children =
    subst (λ nodes. depth nodes ≤ depth (node_of c.args.node).children) here c.loop-next.invariant.shallow in (
      omega arith,
      (
        subst (HasNextOrder c.loop-next.doc.names c.args.order.now) c.in-Some.is c.loop-next.invariant.order,
        (
          (distinct.0, distinct.1, tt),
          may_add_first c.loop-next.doc target s.name (entries (properties_by_name s.own)) (sorted_nodes s.children)
              (sorted_nodes s.later) adding,
        ),
      ),
    )

pub add_children-loop-next-smaller : goal.add_children-loop-next-smaller
add_children-loop-next-smaller t c =
    let s = node_of c.in-Some.child in
    let before : length (siblings (nodes_from (option_map node_of c.loop-next.next))) ≡ suc (length (siblings s.later)) =
    ap (λ next. length (siblings (nodes_from (option_map node_of next)))) c.in-Some.is in
    let after : length (siblings (nodes_from (option_map node_of c.next_sibling-next.result))) ≡ length (siblings s.later) =
    ap (λ nodes. length (siblings nodes)) (ap nodes_from c.next_sibling-next.ensures.sibling ∙ nodes_from_first s.later) in
    omega arith

pub add_children-loop-next-preserved : goal.add_children-loop-next-preserved
add_children-loop-next-preserved t c =
    let s = node_of c.in-Some.child in
    let target = with_events c.args.doc.now (events (sorted_nodes (node_of c.args.node).children)) in
    let here : nodes_from (option_map node_of c.loop-next.next)
    ≡ nodes_from (Some s) = ap (λ next. nodes_from (option_map node_of next)) c.in-Some.is in
    let rest : nodes_from (option_map node_of c.next_sibling-next.result)
    ≡ s.later = ap nodes_from c.next_sibling-next.ensures.sibling ∙ nodes_from_first s.later in
    let adding : IsAdding c.loop-next.doc target (sorted_nodes (nodes_from (Some s))) = subst
    (λ nodes. IsAdding c.loop-next.doc target (sorted_nodes nodes)) here c.loop-next.invariant.adding in
    let distinct : EachOwn HasDistinctNames (nodes_from (Some s)) = subst (EachOwn HasDistinctNames) here c.loop-next.invariant.distinct in
    let shallow : max (depth s.children + 1) (depth s.later) ≤ depth (node_of c.args.node).children =
    subst (λ nodes. depth nodes ≤ depth (node_of c.args.node).children) here c.loop-next.invariant.shallow in
    rw rest (record {
      adding = adding_later c.loop-next.doc target s.name (entries (properties_by_name s.own)) (sorted_nodes s.children)
          (sorted_nodes s.later) adding c.add_node.new.doc c.in_ok-add_node.ensures.added;
      order = still_ordered_next c.args.order.now c.in-Some.child c.next_sibling-next.result c.loop-next.doc c.add_node.new.doc
          (events (sorted_nodes (node s.name s.own s.children none))) c.in_ok-add_node.ensures.added
          c.next_sibling-next.ensures.same_table
          (subst (HasNextOrder c.loop-next.doc.names c.args.order.now) c.in-Some.is c.loop-next.invariant.order);
      distinct = distinct.2;
      shallow = omega arith;
    })

pub add_node-begin_node-requires-clause-may : goal.add_node-begin_node-requires-clause-may
add_node-begin_node-requires-clause-may t c =
    let s = node_of c.args.node in
    may_begin c.args.doc.now (begin_events s.name (properties_by_name s.own)) (events (sorted_nodes s.children)) c.requires.may

pub add_node-add_children-requires : goal.add_node-add_children-requires
add_node-add_children-requires t c =
    let s = node_of c.args.node in (
      omega arith,
      (
        still_ordered c.args.order.now c.args.node c.args.doc.now c.begin_node.new.doc
            (begin_events s.name (properties_by_name s.own)) c.in_ok-begin_node.ensures.added c.requires.order,
        (
          c.requires.distinct.1,
          may_have_children c.args.doc.now (begin_events s.name (properties_by_name s.own))
              (events (sorted_nodes s.children)) c.begin_node.new.doc c.in_ok-begin_node.ensures.added c.requires.may,
        ),
      ),
    )

pub add_node-end-requires : goal.add_node-end-requires
add_node-end-requires t c =
    let s = node_of c.args.node in
    may_end c.args.doc.now (begin_events s.name (properties_by_name s.own))
    (events (sorted_nodes s.children)) c.begin_node.new.doc c.add_children.new.doc c.in_ok-begin_node.ensures.added
    c.in_ok-add_children.ensures.added c.requires.may
