use Rattle.std.proofs.Common.{◌≡◌, ◌+◌, ◌≤◌, ◌++◌, refl, sym, suc, length, map, max, Some, ap, subst, ◌∙◌, append-nil, arith}
use Rattle.std.specs.Option.{option_map}
use Rattle.bi_blob.specs.Tree.{EachOwn, depth}
use Rattle.bi_blob.specs.Lookups.{siblings}
use Rattle.bi_fdt.specs.Views.{node_of, table_of_node}
use Rattle.bi_fit.specs.NormalNodes.{HasDistinctNames, alone, properties_by_name}
use Rattle.bi_fit.proofs.NodeEvents.{nodes_from, nodes_from_first}
use Rattle.bi_describe.specs.MadeEntries.{plain_entries, begin_entries}
use Rattle.bi_describe.specs.PropertyOrders.{IsByName}
use Rattle.bi_describe.specs.TreeEntries.{as_entry}
use Rattle.bi_describe.proofs.EntriesOfNodes.{appended_first, plain-first, node_appended}
use Rattle.bi_describe.proofs.NextNodes.{HasOrderOfNext, next_in_order}
use Rattle.bi_describe.proofs.describe.nodes.+nodes.Goals as goal

pub add_children-loop-next-init : goal.add_children-loop-next-init
add_children-loop-next-init t c =
    let s = node_of c.args.node in
    let all : nodes_from (option_map node_of c.first_child-next.result) ≡ s.children = ap nodes_from c.first_child-next.ensures.child
    ∙ nodes_from_first s.children in
    rw all (record {
      order = next_in_order c.args.node c.first_child-next.result c.first_child-next.ensures.same_table c.requires.order;
      distinct = c.requires.distinct;
      left = refl;
      shallow = omega arith;
    })

pub add_children-add_node-requires : goal.add_children-add_node-requires
add_children-add_node-requires t c =
    let s = node_of c.in-Some.child in
    let here : nodes_from (option_map node_of c.loop-next.next)
    ≡ nodes_from (Some s) = ap (λ next. nodes_from (option_map node_of next)) c.in-Some.is in
    let shallow : max (depth s.children + 1) (depth s.later) ≤ depth (node_of c.args.node).children =
    subst (λ nodes. depth nodes ≤ depth (node_of c.args.node).children) here c.loop-next.invariant.shallow in
    let distinct : EachOwn HasDistinctNames (nodes_from (Some s)) = subst
    (EachOwn HasDistinctNames) here c.loop-next.invariant.distinct in (
      omega arith,
      (
        subst (HasOrderOfNext c.args.order.now) c.in-Some.is c.loop-next.invariant.order,
        (distinct.0, distinct.1, tt),
      ),
    )

pub add_children-loop-next-smaller : goal.add_children-loop-next-smaller
add_children-loop-next-smaller t c =
    let s = node_of c.in-Some.child in
    let before : length (siblings (nodes_from (option_map node_of c.loop-next.next))) ≡ suc (length (siblings s.later)) =
    ap (λ next. length (siblings (nodes_from (option_map node_of next)))) c.in-Some.is in
    let after : length (siblings (nodes_from (option_map node_of c.next_sibling-next.result))) ≡ length (siblings s.later) =
    ap (λ nodes. length (siblings nodes)) (ap nodes_from c.next_sibling-next.ensures.sibling ∙ nodes_from_first s.later) in
    omega arith

pub add_children-loop-next-preserved : goal.add_children-loop-next-preserved
add_children-loop-next-preserved t c =
    let s = node_of c.in-Some.child in
    let target = map as_entry c.args.entries.now.items ++ plain_entries (node_of c.args.node).children in
    let here : nodes_from (option_map node_of c.loop-next.next)
    ≡ nodes_from (Some s) = ap (λ next. nodes_from (option_map node_of next)) c.in-Some.is in
    let rest : nodes_from (option_map node_of c.next_sibling-next.result)
    ≡ s.later = ap nodes_from c.next_sibling-next.ensures.sibling ∙ nodes_from_first s.later in
    let left : map as_entry c.loop-next.entries.items ++ (plain_entries (alone s) ++ plain_entries s.later) ≡ target =
    ap (λ l. map as_entry c.loop-next.entries.items ++ l) (sym (plain-first s))
    ∙ subst (λ nodes. map as_entry c.loop-next.entries.items ++ plain_entries nodes ≡ target) here c.loop-next.invariant.left in
    let shallow : max (depth s.children + 1) (depth s.later) ≤ depth (node_of c.args.node).children =
    subst (λ nodes. depth nodes ≤ depth (node_of c.args.node).children) here c.loop-next.invariant.shallow in
    let distinct : EachOwn HasDistinctNames (nodes_from (Some s)) = subst (EachOwn HasDistinctNames) here c.loop-next.invariant.distinct in
    let order : IsByName (table_of_node c.in-Some.child) c.args.order.now = subst
    (HasOrderOfNext c.args.order.now) c.in-Some.is c.loop-next.invariant.order in
    rw rest (record {
      order = next_in_order c.in-Some.child c.next_sibling-next.result c.next_sibling-next.ensures.same_table order;
      distinct = distinct.2;
      left = appended_first (map as_entry c.loop-next.entries.items) (plain_entries (alone s)) (plain_entries s.later) target
          (map as_entry c.add_node.new.entries.items) left c.in_ok-add_node.ensures;
      shallow = omega arith;
    })

pub add_children-returns : goal.add_children-returns
add_children-returns t c =
    let target = map as_entry c.args.entries.now.items ++ plain_entries (node_of c.args.node).children in
    let none_left = ap (λ next. nodes_from (option_map node_of next)) c.in_default.is in
    sym (append-nil (map as_entry c.loop-next.entries.items))
    ∙ subst (λ nodes. map as_entry c.loop-next.entries.items ++ plain_entries nodes ≡ target) none_left c.loop-next.invariant.left

pub add_node-add_children-requires : goal.add_node-add_children-requires
add_node-add_children-requires t c = (omega arith, (c.requires.order, c.requires.distinct.1))

pub add_node-returns : goal.add_node-returns
add_node-returns t c =
    let s = node_of c.args.node in
    node_appended (map as_entry c.args.entries.now.items) (begin_entries s.name (properties_by_name s.own)) (plain_entries s.children)
    (map as_entry c.begin_node.new.entries.items) c.add_children.new.entries.items c.push.new.self.items
    c.in_ok-begin_node.ensures c.in_ok-add_children.ensures c.in_ok-push.ensures.items
