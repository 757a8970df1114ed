use Rattle.std.proofs.Common.{◌≡◌, ◌+◌, ◌≤◌, ◌++◌, refl, sym, suc, length, max, Some, ap, subst, ◌∙◌, append-nil, arith}
use Rattle.std.specs.Option.{option_map}
use Rattle.bi_base.specs.Slices.{bytes_of}
use Rattle.bi_blob.specs.Tree.{depth}
use Rattle.bi_blob.specs.Lookups.{siblings}
use Rattle.bi_fdt.specs.Views.{node_of}
use Rattle.bi_fit.specs.NormalNodes.{alone}
use Rattle.bi_fit.proofs.NodeEvents.{nodes_from, nodes_from_first}
use Rattle.bi_report.specs.ConcernValues.{name_lists}
use Rattle.bi_report.specs.SignedTrees.{addresses_below}
use Rattle.bi_report.proofs.UnitAddresses.{added_first, addresses_first, node_added}
use Rattle.bi_report.proofs.check.addresses.+nodes.Goals as goal

pub add_below-loop-next-init : goal.add_below-loop-next-init
add_below-loop-next-init t c =
    let s = node_of c.args.node in
    let all : nodes_from (option_map node_of c.first_child-next.result) ≡ s.children = ap nodes_from c.first_child-next.ensures.child
    ∙ nodes_from_first s.children in
    rw all (record { left = refl; names = refl; shallow = omega arith })

pub add_below-loop-next-smaller : goal.add_below-loop-next-smaller
add_below-loop-next-smaller t c =
    let s = node_of c.in-Some.child in
    let before : length (siblings (nodes_from (option_map node_of c.loop-next.next))) ≡ suc (length (siblings s.later)) =
    ap (λ next. length (siblings (nodes_from (option_map node_of next)))) c.in-Some.is in
    let after : length (siblings (nodes_from (option_map node_of c.next_sibling-next.result))) ≡ length (siblings s.later) =
    ap (λ nodes. length (siblings nodes)) (ap nodes_from c.next_sibling-next.ensures.sibling ∙ nodes_from_first s.later) in
    omega arith

pub add_below-returns-clause-paths : goal.add_below-returns-clause-paths
add_below-returns-clause-paths t c =
    let none_left = ap (λ next. nodes_from (option_map node_of next)) c.in_default.is in
    sym (append-nil (name_lists c.loop-next.paths.items))
    ∙ subst (λ nodes. name_lists c.loop-next.paths.items ++ addresses_below (bytes_of c.loop-next.names.items) nodes
    ≡ name_lists c.args.paths.now.items ++ addresses_below (bytes_of c.args.names.now.items) (node_of c.args.node).children)
    none_left c.loop-next.invariant.left

pub add_below-loop-next-preserved : goal.add_below-loop-next-preserved
add_below-loop-next-preserved t c =
    let s = node_of c.in-Some.child in
    let old = name_lists c.loop-next.paths.items in
    let parent = bytes_of c.loop-next.names.items in
    let target = name_lists c.args.paths.now.items
    ++ addresses_below (bytes_of c.args.names.now.items) (node_of c.args.node).children in
    let here : nodes_from (option_map node_of c.loop-next.next)
    ≡ nodes_from (Some s) = ap (λ next. nodes_from (option_map node_of next)) c.in-Some.is in
    let rest : nodes_from (option_map node_of c.next_sibling-next.result)
    ≡ s.later = ap nodes_from c.next_sibling-next.ensures.sibling ∙ nodes_from_first s.later in
    let left : old ++ addresses_below parent (nodes_from (Some s)) ≡ target = subst
    (λ nodes. old ++ addresses_below parent nodes ≡ target) here c.loop-next.invariant.left in
    let shallow : max (depth s.children + 1) (depth s.later) ≤ depth (node_of c.args.node).children =
    subst (λ nodes. depth nodes ≤ depth (node_of c.args.node).children) here c.loop-next.invariant.shallow in
    rw rest (record {
      left = subst (λ items. name_lists c.add_node.new.paths.items ++ addresses_below (bytes_of items) s.later ≡ target)
          (sym c.in_ok-add_node.ensures.names)
          (added_first old (addresses_below parent (alone s)) (addresses_below parent s.later) target
          (name_lists c.add_node.new.paths.items) (ap (λ l. old ++ l) (sym (addresses_first parent s)) ∙ left)
          c.in_ok-add_node.ensures.paths);
      names = c.in_ok-add_node.ensures.names ∙ c.loop-next.invariant.names;
      shallow = omega arith;
    })
