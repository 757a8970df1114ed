use Rattle.std.proofs.Common.{◌≡◌, ◌+◌, ◌≤◌, suc, length, max, Some, sym, ap, subst, ◌∙◌, arith}
use Rattle.std.specs.Prelude.{IfSome}
use Rattle.std.specs.Option.{option_map}
use Rattle.bi_blob.specs.Tree.{EachOwn, depth}
use Rattle.bi_blob.specs.Lookups.{siblings}
use Rattle.bi_fdt.specs.Views.{node_of, table_of_node}
use Rattle.bi_fit.specs.NormalNodes.{HasDistinctNames}
use Rattle.bi_fit.specs.ComparedNodes.{compared_nodes}
use Rattle.bi_fit.proofs.NodeEvents.{nodes_from, nodes_from_first}
use Rattle.bi_fit.proofs.ComparedTrees.{same_later}
use Rattle.bi_fit.proofs.comparing.nodes.+same.Goals as goal

pub have_same_children-loop-next-init : goal.have_same_children-loop-next-init
have_same_children-loop-next-init t c =
    let s = node_of c.args.own in
    let other = node_of c.args.other in
    let all : nodes_from (option_map node_of c.first_child-next.result) ≡ s.children = ap nodes_from c.first_child-next.ensures.child
    ∙ nodes_from_first s.children in
    let other_all : nodes_from (option_map node_of c.first_child-other_next.result)
    ≡ other.children = ap nodes_from c.first_child-other_next.ensures.child ∙ nodes_from_first other.children in
    rw (all, other_all) (record {
      same = ((λ equal. equal), (λ equal. equal));
      distinct = c.requires.distinct;
      other_distinct = c.requires.other_distinct;
      shallow = omega arith;
      table = c.first_child-next.ensures.same_table;
      other_table = c.first_child-other_next.ensures.same_table;
    })

pub have_same_children-loop-next-smaller : goal.have_same_children-loop-next-smaller
have_same_children-loop-next-smaller t c =
    let s = node_of c.in-Some.child in
    let before : length (siblings (nodes_from (option_map node_of c.loop-next.next))) ≡ suc (length (siblings s.later)) =
    ap (λ next. length (siblings (nodes_from (option_map node_of next)))) c.in-Some.is in
    let after : length (siblings (nodes_from (option_map node_of c.next_sibling-next.result))) ≡ length (siblings s.later) =
    ap (λ nodes. length (siblings nodes)) (ap nodes_from c.next_sibling-next.ensures.sibling ∙ nodes_from_first s.later) in
    omega arith

pub have_same_children-loop-next-preserved : goal.have_same_children-loop-next-preserved
have_same_children-loop-next-preserved t c =
    let s = node_of c.in-Some.child in
    let other = node_of c.in-Some-other_next.other_child in
    let here : nodes_from (option_map node_of c.loop-next.next)
    ≡ nodes_from (Some s) = ap (λ next. nodes_from (option_map node_of next)) c.in-Some.is in
    let other_here : nodes_from (option_map node_of c.loop-next.other_next)
    ≡ nodes_from (Some other) = ap (λ next. nodes_from (option_map node_of next)) c.in-Some-other_next.is in
    let rest : nodes_from (option_map node_of c.next_sibling-next.result)
    ≡ s.later = ap nodes_from c.next_sibling-next.ensures.sibling ∙ nodes_from_first s.later in
    let other_rest : nodes_from (option_map node_of c.next_sibling-other_next.result)
    ≡ other.later = ap nodes_from c.next_sibling-other_next.ensures.sibling ∙ nodes_from_first other.later in
    let distinct : EachOwn HasDistinctNames (nodes_from (Some s)) = subst (EachOwn HasDistinctNames) here c.loop-next.invariant.distinct in
    let other_distinct : EachOwn HasDistinctNames (nodes_from (Some other)) = subst
    (EachOwn HasDistinctNames) other_here c.loop-next.invariant.other_distinct in
    let shallow : max (depth s.children + 1) (depth s.later) ≤ depth (node_of c.args.own).children =
    subst (λ nodes. depth nodes ≤ depth (node_of c.args.own).children) here c.loop-next.invariant.shallow in
    let table : table_of_node c.in-Some.child ≡ table_of_node c.args.own =
    subst (λ next. IfSome next (λ child. table_of_node child ≡ table_of_node c.args.own)) c.in-Some.is c.loop-next.invariant.table in
    let other_table : table_of_node c.in-Some-other_next.other_child ≡ table_of_node c.args.other =
    subst (λ next. IfSome next (λ child. table_of_node child ≡ table_of_node c.args.other)) c.in-Some-other_next.is
    c.loop-next.invariant.other_table in
    let step = same_later c.args.role s other (c.are_same_nodes.ensures.0 c.if-not-are_same_nodes.false) in
    rw (rest, other_rest) (record {
      same = (
        (λ later. c.loop-next.invariant.same.0
            (ap (compared_nodes c.args.role) here ∙ step.0 later ∙ sym (ap (compared_nodes c.args.role) other_here))),
        (λ all. step.1 (sym (ap (compared_nodes c.args.role) here) ∙ c.loop-next.invariant.same.1 all
            ∙ ap (compared_nodes c.args.role) other_here)),
      );
      distinct = distinct.2;
      other_distinct = other_distinct.2;
      shallow = omega arith;
      table = subst (λ table. IfSome c.next_sibling-next.result (λ child. table_of_node child ≡ table)) table
          c.next_sibling-next.ensures.same_table;
      other_table = subst (λ table. IfSome c.next_sibling-other_next.result (λ child. table_of_node child ≡ table)) other_table
          c.next_sibling-other_next.ensures.same_table;
    })
