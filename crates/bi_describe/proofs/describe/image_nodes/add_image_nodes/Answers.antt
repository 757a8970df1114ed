use Rattle.std.proofs.Common.{◌≡◌, ℕ, ◌+◌, ◌<◌, ◌++◌, ◌∷◌, List, Option, map, length, drop, get_or, Some, refl, sym, ap, subst, ◌∙◌}
use Rattle.std.proofs.Common.{append-nil, add-one}
use Rattle.std.proofs.Math.Seq.{drop-cons}
use Rattle.std.specs.Option.{option_map}
use Rattle.std.proofs.lemmas.List.{drop_all}
use Rattle.bi_blob.specs.Tree.{EachOwn}
use Rattle.bi_fdt.specs.Views.{node_of, table_of_node}
use Rattle.bi_fit.specs.NormalNodes.{HasDistinctNames}
use Rattle.bi_fit.proofs.NodeEvents.{nodes_from, nodes_from_first}
use Rattle.bi_describe.specs.declared.describe.image_payload.ImagePayload.{ImagePayload}
use Rattle.bi_describe.specs.ImagePayloads.{bytes_of_payload, bytes_of_payloads}
use Rattle.bi_describe.specs.MadeEntries.{image_entries, images_entries}
use Rattle.bi_describe.specs.PropertyOrders.{IsByName}
use Rattle.bi_describe.specs.TreeEntries.{as_entry}
use Rattle.bi_describe.proofs.EntriesOfNodes.{appended_first, images-first, images-no_nodes, images-no_payloads}
use Rattle.bi_describe.proofs.NextNodes.{HasOrderOfNext, next_in_order}
use Rattle.bi_describe.proofs.describe.image_nodes.add_image_nodes.Goals as goal

-- The payloads from one on are that and those after it.
payloads_from : (payloads : List ImagePayload) (index : ℕ) (payload : ImagePayload) → payload
    ≡ get_or payloads index payload → index < length payloads →
    bytes_of_payloads (drop index payloads) ≡ bytes_of_payload payload ∷ bytes_of_payloads (drop (index + 1) payloads)
payloads_from payloads index payload is within =
    let cons : drop index payloads ≡ get_or payloads index payload
    ∷ drop (index + 1) payloads = rw add-one (drop-cons payloads index payload within) in
    ap bytes_of_payloads cons ∙ ap (λ item. bytes_of_payload item ∷ bytes_of_payloads (drop (index + 1) payloads)) (sym is)

pub loop-payload-init : goal.loop-payload-init
loop-payload-init c =
    let s = node_of c.args.node in
    let all : nodes_from (option_map node_of c.first_child-next.result) ≡ s.children = ap nodes_from c.first_child-next.ensures.child
    ∙ nodes_from_first s.children in
    rw all (record {
      order = next_in_order c.args.node c.first_child-next.result c.first_child-next.ensures.same_table c.requires.order;
      distinct = c.requires.distinct;
      left = refl;
    })

pub add_image-requires : goal.add_image-requires
add_image-requires c =
    let s = node_of c.in-Some.child in
    let here : nodes_from (option_map node_of c.loop-payload.next)
    ≡ nodes_from (Some s) = ap (λ next. nodes_from (option_map node_of next)) c.in-Some.is in
    let distinct : EachOwn HasDistinctNames (nodes_from (Some s)) = subst
    (EachOwn HasDistinctNames) here c.loop-payload.invariant.distinct in
    record {
      order = subst (HasOrderOfNext c.args.order.now) c.in-Some.is c.loop-payload.invariant.order;
      distinct = (distinct.0, distinct.1, tt);
    }

pub returns-in_default : goal.returns-in_default
returns-in_default c =
    let start = map as_entry c.loop-payload.entries.items in
    let payloads = bytes_of_payloads (drop c.loop-payload.payload-index c.args.payloads.now) in
    let no_nodes = ap (λ next. nodes_from (option_map node_of next)) c.in_default.is in
    sym (append-nil start)
    ∙ ap (λ l. start ++ l) (sym (images-no_nodes payloads))
    ∙ ap (λ nodes. start ++ images_entries nodes payloads) (sym no_nodes)
    ∙ c.loop-payload.invariant.left

pub loop-payload-preserved : goal.loop-payload-preserved
loop-payload-preserved c =
    let s = node_of c.in-Some.child in
    let start = map as_entry c.loop-payload.entries.items in
    let payload : Option (List ℕ) = bytes_of_payload c.payload-item.result in
    let later = bytes_of_payloads (drop (c.loop-payload.payload-index + 1) c.args.payloads.now) in
    let target = map as_entry c.args.entries.now.items
    ++ images_entries (node_of c.args.node).children (bytes_of_payloads c.args.payloads.now) in
    let here : nodes_from (option_map node_of c.loop-payload.next)
    ≡ nodes_from (Some s) = ap (λ next. nodes_from (option_map node_of next)) c.in-Some.is in
    let rest : nodes_from (option_map node_of c.next_sibling-next.result)
    ≡ s.later = ap nodes_from c.next_sibling-next.ensures.sibling ∙ nodes_from_first s.later in
    let all : start ++ images_entries (nodes_from (Some s)) (payload ∷ later) ≡ target =
    subst (λ payloads. start ++ images_entries (nodes_from (Some s)) payloads ≡ target)
    (payloads_from c.args.payloads.now c.loop-payload.payload-index c.payload-item.result c.payload-item.is c.loop-payload-test.true)
    (subst (λ nodes. start ++ images_entries nodes (bytes_of_payloads (drop c.loop-payload.payload-index c.args.payloads.now)) ≡ target)
    here c.loop-payload.invariant.left) in
    let left : start ++ (image_entries s payload ++ images_entries s.later later) ≡ target =
    ap (λ l. start ++ l) (sym (images-first s payload later)) ∙ all in
    let distinct : EachOwn HasDistinctNames (nodes_from (Some s)) = subst
    (EachOwn HasDistinctNames) here c.loop-payload.invariant.distinct in
    let order : IsByName (table_of_node c.in-Some.child) c.args.order.now = subst
    (HasOrderOfNext c.args.order.now) c.in-Some.is c.loop-payload.invariant.order in
    rw rest (record {
      order = next_in_order c.in-Some.child c.next_sibling-next.result c.next_sibling-next.ensures.same_table order;
      distinct = distinct.2;
      left = appended_first start (image_entries s payload) (images_entries s.later later) target
          (map as_entry c.add_image.new.entries.items) left c.in_ok-add_image.ensures;
    })

pub returns : goal.returns
returns c =
    let start = map as_entry c.loop-payload.entries.items in
    let nodes = nodes_from (option_map node_of c.loop-payload.next) in
    sym (append-nil start)
    ∙ ap (λ l. start ++ l) (sym (images-no_payloads nodes))
    ∙ ap (λ payloads. start ++ images_entries nodes (bytes_of_payloads payloads))
    (sym (drop_all c.loop-payload.payload-index c.args.payloads.now c.loop-payload-test.false))
    ∙ c.loop-payload.invariant.left
