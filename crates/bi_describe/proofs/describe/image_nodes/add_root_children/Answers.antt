use Rattle.std.proofs.Common.{◌≡◌, ◌++◌, ◌∷◌, [], bytes_eq, suc, length, map, Some, refl, sym, ap, subst, ◌∙◌, append-nil, arith}
use Rattle.std.specs.Option.{option_map}
use Rattle.bi_blob.specs.Lookups.{siblings}
use Rattle.bi_blob.specs.Tree.{AreDistinct, EachOwn, names}
use Rattle.bi_fdt.specs.Views.{node_of, table_of_node}
use Rattle.bi_fit.specs.NormalNodes.{HasDistinctNames, alone, properties_by_name}
use Rattle.bi_fit.specs.Names.{images_name}
use Rattle.bi_fit.proofs.NodeEvents.{nodes_from, nodes_from_first}
use Rattle.bi_describe.specs.ImagePayloads.{bytes_of_payloads}
use Rattle.bi_describe.specs.MadeEntries.{plain_entries, begin_entries, images_entries, root_children_entries}
use Rattle.bi_describe.specs.PropertyOrders.{IsByName}
use Rattle.bi_describe.specs.TreeEntries.{NodeEnds, as_entry}
use Rattle.bi_describe.proofs.NextNodes.{HasOrderOfNext, next_in_order}
use Rattle.bi_describe.proofs.EntriesOfNodes.{appended_first, root-images, root-other, root-none}
use Rattle.bi_describe.proofs.describe.image_nodes.add_root_children.Goals as goal
use Rattle.bi_describe.proofs.describe.image_nodes.add_root_children.Goals.{then-eq+in_ok-add_images, else-eq+in_ok-add_node}

pub loop-next-init : goal.loop-next-init
loop-next-init c =
    let s = node_of c.args.root in
    let all : nodes_from (option_map node_of c.first_child-next.result) ≡ s.children = ap nodes_from c.first_child-next.ensures.child
    ∙ nodes_from_first s.children in
    rw all (record {
      order = next_in_order c.args.root c.first_child-next.result c.first_child-next.ensures.same_table c.requires.order;
      distinct = c.requires.distinct;
      names = c.requires.names;
      left = refl;
    })

pub add_images-requires : goal.add_images-requires
add_images-requires c =
    let s = node_of c.in-Some.child in
    let here : nodes_from (option_map node_of c.loop-next.next)
    ≡ nodes_from (Some s) = ap (λ next. nodes_from (option_map node_of next)) c.in-Some.is in
    let distinct : EachOwn HasDistinctNames (nodes_from (Some s)) = subst (EachOwn HasDistinctNames) here c.loop-next.invariant.distinct in
    record {
      order = subst (HasOrderOfNext c.args.order.now) c.in-Some.is c.loop-next.invariant.order;
      distinct = (distinct.0, distinct.1, tt);
    }

pub add_node-requires : goal.add_node-requires
add_node-requires c =
    let s = node_of c.in-Some.child in
    let here : nodes_from (option_map node_of c.loop-next.next)
    ≡ nodes_from (Some s) = ap (λ next. nodes_from (option_map node_of next)) c.in-Some.is in
    let distinct : EachOwn HasDistinctNames (nodes_from (Some s)) = subst (EachOwn HasDistinctNames) here c.loop-next.invariant.distinct in
    record {
      order = subst (HasOrderOfNext c.args.order.now) c.in-Some.is c.loop-next.invariant.order;
      distinct = (distinct.0, distinct.1, tt);
    }

pub loop-next-smaller : goal.loop-next-smaller
loop-next-smaller c =
    let s = node_of c.in-Some.child in
    let before : length (siblings (nodes_from (option_map node_of c.loop-next.next))) ≡ suc (length (siblings s.later)) =
    ap (λ next. length (siblings (nodes_from (option_map node_of next)))) c.in-Some.is in
    let after : length (siblings (nodes_from (option_map node_of c.next_sibling-next.result))) ≡ length (siblings s.later) =
    ap (λ nodes. length (siblings nodes)) (ap nodes_from c.next_sibling-next.ensures.sibling ∙ nodes_from_first s.later) in
    omega arith

pub loop-next-preserved : goal.loop-next-preserved
loop-next-preserved c =
    let s = node_of c.in-Some.child in
    let start = map as_entry c.loop-next.entries.items in
    let payloads = bytes_of_payloads c.args.payloads.now in
    let target = map as_entry c.args.entries.now.items ++ root_children_entries (node_of c.args.root).children payloads in
    let here : nodes_from (option_map node_of c.loop-next.next)
    ≡ nodes_from (Some s) = ap (λ next. nodes_from (option_map node_of next)) c.in-Some.is in
    let rest : nodes_from (option_map node_of c.next_sibling-next.result)
    ≡ s.later = ap nodes_from c.next_sibling-next.ensures.sibling ∙ nodes_from_first s.later in
    let all : start ++ root_children_entries (nodes_from (Some s)) payloads ≡ target =
    subst (λ nodes. start ++ root_children_entries nodes payloads ≡ target) here c.loop-next.invariant.left in
    let distinct : EachOwn HasDistinctNames (nodes_from (Some s)) = subst (EachOwn HasDistinctNames) here c.loop-next.invariant.distinct in
    let names : AreDistinct (names (nodes_from (Some s))) = subst (λ nodes. AreDistinct (names nodes)) here c.loop-next.invariant.names in
    let order : IsByName (table_of_node c.in-Some.child) c.args.order.now = subst
    (HasOrderOfNext c.args.order.now) c.in-Some.is c.loop-next.invariant.order in
    let same : bytes_eq s.name images_name ≡ c.eq.result =
    ap (λ name. bytes_eq name images_name) (sym c.name.ensures)
    ∙ ap (bytes_eq c.name.result.now) (sym c.as_slice.ensures) ∙ sym c.eq.ensures in
    let left : map as_entry c.if-eq.entries.items ++ root_children_entries s.later payloads ≡ target = elim c.if-eq.branch [
      | then-eq+in_ok-add_images w ↦
          rw (w.entries-is)
          (appended_first start (begin_entries s.name (properties_by_name s.own) ++ (images_entries s.children payloads ++ NodeEnds ∷ []))
          (root_children_entries s.later payloads) target (map as_entry w.add_images.new.entries.items)
          (ap (λ l. start ++ l) (sym (root-images s payloads (same ∙ w.if-eq.true) names.0)) ∙ all) w.in_ok-add_images.ensures)
      | else-eq+in_ok-add_node w ↦
          rw (w.entries-is)
          (appended_first start (plain_entries (alone s)) (root_children_entries s.later payloads) target
          (map as_entry w.add_node.new.entries.items)
          (ap (λ l. start ++ l) (sym (root-other s payloads (same ∙ w.if-eq.false))) ∙ all) w.in_ok-add_node.ensures)
    ] in
    rw rest (record {
      order = next_in_order c.in-Some.child c.next_sibling-next.result c.next_sibling-next.ensures.same_table order;
      distinct = distinct.2;
      names = names.1;
      left = left;
    })

pub returns : goal.returns
returns c =
    let start = map as_entry c.loop-next.entries.items in
    let payloads = bytes_of_payloads c.args.payloads.now in
    let no_nodes = ap (λ next. nodes_from (option_map node_of next)) c.in_default.is in
    sym (append-nil start)
    ∙ ap (λ l. start ++ l) (sym (root-none payloads))
    ∙ ap (λ nodes. start ++ root_children_entries nodes payloads) (sym no_nodes)
    ∙ c.loop-next.invariant.left
