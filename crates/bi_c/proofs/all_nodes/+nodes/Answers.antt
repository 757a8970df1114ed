use Rattle.std.proofs.Common.{◌≡◌, ◌+◌, ◌≤◌, ◌++◌, ◌∷◌, [], refl, sym, suc, length, max, Some, ap, subst, ◌∙◌, append-nil, arith}
use Rattle.std.specs.Option.{option_map}
use Rattle.bi_blob.specs.Tree.{depth}
use Rattle.bi_blob.specs.Lookups.{siblings}
use Rattle.bi_fdt.specs.Views.{node_of}
use Rattle.bi_fit.specs.NormalNodes.{alone}
use Rattle.bi_fit.proofs.NodeEvents.{nodes_from, nodes_from_first}
use Rattle.bi_report.proofs.UnitAddresses.{added_first}
use Rattle.bi_c.specs.declared.all_nodes.TreeElement.{TreeElement}
use Rattle.bi_c.specs.TreeElements.{tree_elements}
use Rattle.bi_c.specs.TreeRegions.{HaveNodeBytes}
use Rattle.bi_c.proofs.TreeElements.{elements_first, node_elements}
use Rattle.bi_c.proofs.all_nodes.+nodes.Goals as goal

pub add_children-loop-next-init : goal.add_children-loop-next-init
add_children-loop-next-init t c =
    let s = node_of c.args.node in
    let all : nodes_from (option_map node_of c.first_child-next.result) ≡ s.children = ap nodes_from c.first_child-next.ensures.child
    ∙ nodes_from_first s.children in
    rw all (record { bytes = c.requires.bytes; left = refl; shallow = omega arith })

pub add_children-add_node-requires : goal.add_children-add_node-requires
add_children-add_node-requires t c =
    let s = node_of c.in-Some.child in
    let here : nodes_from (option_map node_of c.loop-next.next)
    ≡ nodes_from (Some s) = ap (λ next. nodes_from (option_map node_of next)) c.in-Some.is in
    let shallow : max (depth s.children + 1) (depth s.later) ≤ depth (node_of c.args.node).children =
    subst (λ nodes. depth nodes ≤ depth (node_of c.args.node).children) here c.loop-next.invariant.shallow in
    let bytes : HaveNodeBytes c.args.file.now (nodes_from (Some s)) = subst
    (HaveNodeBytes c.args.file.now) here c.loop-next.invariant.bytes in (
      omega arith,
      (c.requires.header, ((bytes.0, bytes.1, bytes.2, tt), omega (arith, c.requires.few, shallow))),
    )

pub add_children-loop-next-smaller : goal.add_children-loop-next-smaller
add_children-loop-next-smaller t c =
    let s = node_of c.in-Some.child in
    let before : length (siblings (nodes_from (option_map node_of c.loop-next.next))) ≡ suc (length (siblings s.later)) =
    ap (λ next. length (siblings (nodes_from (option_map node_of next)))) c.in-Some.is in
    let after : length (siblings (nodes_from (option_map node_of c.next_sibling-next.result))) ≡ length (siblings s.later) =
    ap (λ nodes. length (siblings nodes)) (ap nodes_from c.next_sibling-next.ensures.sibling ∙ nodes_from_first s.later) in
    omega arith

pub add_children-loop-next-preserved : goal.add_children-loop-next-preserved
add_children-loop-next-preserved t c =
    let s = node_of c.in-Some.child in
    let file = c.args.file.now in
    let above = c.args.above in
    let target = c.args.elements.now.items ++ tree_elements file above (node_of c.args.node).children in
    let here : nodes_from (option_map node_of c.loop-next.next)
    ≡ nodes_from (Some s) = ap (λ next. nodes_from (option_map node_of next)) c.in-Some.is in
    let rest : nodes_from (option_map node_of c.next_sibling-next.result)
    ≡ s.later = ap nodes_from c.next_sibling-next.ensures.sibling ∙ nodes_from_first s.later in
    let left : c.loop-next.elements.items ++ (tree_elements file above (alone s) ++ tree_elements file above s.later) ≡ target =
    ap (λ l. c.loop-next.elements.items ++ l) (sym (elements_first file above s))
    ∙ subst (λ nodes. c.loop-next.elements.items ++ tree_elements file above nodes ≡ target) here c.loop-next.invariant.left in
    let shallow : max (depth s.children + 1) (depth s.later) ≤ depth (node_of c.args.node).children =
    subst (λ nodes. depth nodes ≤ depth (node_of c.args.node).children) here c.loop-next.invariant.shallow in
    let bytes : HaveNodeBytes file (nodes_from (Some s)) = subst (HaveNodeBytes file) here c.loop-next.invariant.bytes in
    rw rest (record {
      bytes = bytes.3;
      left = added_first c.loop-next.elements.items (tree_elements file above (alone s)) (tree_elements file above s.later) target
          c.add_node.new.elements.items left c.in_ok-add_node.ensures;
      shallow = omega arith;
    })

pub add_children-returns : goal.add_children-returns
add_children-returns t c =
    let file = c.args.file.now in
    let target = c.args.elements.now.items ++ tree_elements file c.args.above (node_of c.args.node).children in
    let none_left = ap (λ next. nodes_from (option_map node_of next)) c.in_default.is in
    sym (append-nil c.loop-next.elements.items)
    ∙ subst (λ nodes. c.loop-next.elements.items ++ tree_elements file c.args.above nodes ≡ target) none_left c.loop-next.invariant.left

pub add_node-add_children-requires : goal.add_node-add_children-requires
add_node-add_children-requires t c =
    (omega arith, (c.requires.header, (c.requires.bytes.2, omega (arith, c.requires.few))))

pub add_node-add_properties-requires-clause-regions : goal.add_node-add_properties-requires-clause-regions
add_node-add_properties-requires-clause-regions t c = c.requires.bytes.1

pub add_node-returns : goal.add_node-returns
add_node-returns t c =
    node_elements c.args.file.now c.args.above (node_of c.args.node) c.args.elements.now.items c.push.new.self.items
    c.add_properties.new.elements.items c.add_children.new.elements.items
    (c.in_ok-push.ensures.items ∙ ap (λ (e : TreeElement). c.args.elements.now.items ++ e ∷ []) c.node_element.ensures)
    c.in_ok-add_properties.ensures c.in_ok-add_children.ensures
