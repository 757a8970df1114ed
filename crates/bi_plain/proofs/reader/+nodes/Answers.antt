use Rattle.std.proofs.Common.{◌≡◌, ◌+◌, ◌≤◌, suc, length, max, Some, sym, ap, subst, ◌∙◌, arith}
use Rattle.std.specs.Option.{option_map}
use Rattle.bi_blob.specs.Tree.{EachOwn, depth}
use Rattle.bi_blob.specs.Lookups.{siblings}
use Rattle.bi_fdt.specs.Order.{IsNumberOrder}
use Rattle.bi_fdt.specs.Views.{node_of, table_of_node}
use Rattle.bi_fit.specs.NormalNodes.{HasDistinctNames}
use Rattle.bi_fit.proofs.NodeEvents.{nodes_from, nodes_from_first}
use Rattle.bi_plain.proofs.ReadLists.{IsReadingNodes, HasSameTable, all_nodes_read, no_nodes_read, one_node_read}
use Rattle.bi_plain.proofs.reader.+nodes.Goals as goal

pub read_children-loop-next-init : goal.read_children-loop-next-init
read_children-loop-next-init t c =
    let s = node_of c.args.node in
    let all : nodes_from (option_map node_of c.first_child-next.result) ≡ s.children = ap nodes_from c.first_child-next.ensures.child
    ∙ nodes_from_first s.children in
    rw all (record {
      reading = λ names order. subst (λ items. IsReadingNodes names s.children items s.children) (sym c.new-children.ensures.items)
          (no_nodes_read names s.children);
      table = c.first_child-next.ensures.same_table;
      distinct = c.requires.distinct;
      shallow = omega arith;
    })

pub read_children-loop-next-smaller : goal.read_children-loop-next-smaller
read_children-loop-next-smaller t c =
    let s = node_of c.in-Some.child in
    let before : length (siblings (nodes_from (option_map node_of c.loop-next.next))) ≡ suc (length (siblings s.later)) =
    ap (λ next. length (siblings (nodes_from (option_map node_of next)))) c.in-Some.is in
    let after : length (siblings (nodes_from (option_map node_of c.next_sibling-next.result))) ≡ length (siblings s.later) =
    ap (λ nodes. length (siblings nodes)) (ap nodes_from c.next_sibling-next.ensures.sibling ∙ nodes_from_first s.later) in
    omega arith

pub read_children-loop-next-preserved : goal.read_children-loop-next-preserved
read_children-loop-next-preserved t c =
    let s = node_of c.in-Some.child in
    let top = c.in_ok-read_node.field-0 in
    let all = (node_of c.args.node).children in
    let here : nodes_from (option_map node_of c.loop-next.next)
    ≡ nodes_from (Some s) = ap (λ next. nodes_from (option_map node_of next)) c.in-Some.is in
    let rest : nodes_from (option_map node_of c.next_sibling-next.result)
    ≡ s.later = ap nodes_from c.next_sibling-next.ensures.sibling ∙ nodes_from_first s.later in
    let table : table_of_node c.in-Some.child ≡ table_of_node c.args.node =
    subst (HasSameTable (table_of_node c.args.node)) c.in-Some.is c.loop-next.invariant.table in
    let distinct : EachOwn HasDistinctNames (nodes_from (Some s)) = subst (EachOwn HasDistinctNames) here c.loop-next.invariant.distinct in
    let shallow : max (depth s.children + 1) (depth s.later) ≤ depth all =
    subst (λ nodes. depth nodes ≤ depth all) here c.loop-next.invariant.shallow in
    rw rest (record {
      reading = λ names order.
          subst (λ items. IsReadingNodes names all items s.later) (sym c.in_ok-push.ensures.items)
          (one_node_read names all c.loop-next.children.items s top
          (subst (IsReadingNodes names all c.loop-next.children.items) here (c.loop-next.invariant.reading names order))
          (c.in_ok-read_node.ensures names (subst (λ table. IsNumberOrder names table c.args.order.now) (sym table) order)));
      table = subst (λ table. HasSameTable table c.next_sibling-next.result) table c.next_sibling-next.ensures.same_table;
      distinct = distinct.2;
      shallow = omega arith;
    })

pub read_children-returns : goal.read_children-returns
read_children-returns t c names order =
    let all = (node_of c.args.node).children in
    all_nodes_read names all c.loop-next.children.items
    (subst (λ next. IsReadingNodes names all c.loop-next.children.items (nodes_from (option_map node_of next))) c.in_default.is
    (c.loop-next.invariant.reading names order))

pub read_node-returns : goal.read_node-returns
read_node-returns t c names order =
    let below = c.in_ok-children.ensures names order in
    record { name = c.name.ensures; own = c.in_ok-properties.ensures names order; same = below.same; numbered = below.numbered }
