use Rattle.std.proofs.Common.{◌≡◌, ◌+◌, ◌<◌, [], ◌∷◌, ◌++◌, drop, length, refl, sym, ap, subst, ◌∙◌, append-nil, arith}
use Rattle.std.proofs.lemmas.List.{at_drop_all, at_drop_more}
use Rattle.std.specs.List.{AllByRecursion}
use Rattle.bi_base.proofs.ListMembers.{each-back, each-front}
use Rattle.bi_blob.specs.Tree.{as_nodes, node_count}
use Rattle.bi_tree.specs.Properties.{tree_properties}
use Rattle.bi_tree.specs.TreeNodes.{below, nodes_of_models}
use Rattle.bi_plain.specs.Ranked.{all_numbers, own_numbers, with_marks}
use Rattle.bi_plain.proofs.Marks.{with_marks-append}
use Rattle.bi_plain.proofs.NodeNumbers.{fewer_nodes, first_numbers}
use Rattle.bi_plain.proofs.writer.names.+mark_node.Goals as goal

pub loop-child-init : goal.loop-child-init
loop-child-init t c =
    let node = c.args.node.now in
    let tops = c.deref-child-items.result.now in
    let same : nodes_of_models tops ≡ node.children =
    ap nodes_of_models c.deref-child-items.ensures.value ∙ ap (λ top. top.children) c.node.view_is in
    let long : length c.mark_properties.new.marks ≡ length c.args.marks.now = c.mark_properties.auto.marks in (
      refl,
      subst (λ n. AllByRecursion (λ number. number < n) (all_numbers (nodes_of_models tops))) (sym long)
          (subst (λ nodes. AllByRecursion (λ number. number < length c.args.marks.now) (all_numbers nodes)) (sym same)
          (each-front (λ number. number < length c.args.marks.now) (all_numbers node.children) []
          (each-back (λ number. number < length c.args.marks.now) (own_numbers node.own) (all_numbers node.children ++ []) c.requires))),
    )

pub mark_node-requires : goal.mark_node-requires
mark_node-requires t c =
    let tops = c.deref-child-items.result.now in
    let index = c.loop-child.child-index in
    let child = c.child-item.result in
    let marks = c.loop-child.marks in
    let rest = nodes_of_models (drop (index + 1) tops) in
    let left = at_drop_more (λ l. all_numbers (nodes_of_models l)) tops index child c.loop-child-test.true
    ∙ ap (λ one. all_numbers (nodes_of_models (one ∷ drop (index + 1) tops))) (sym c.child-item.is)
    ∙ first_numbers child rest in
    let all = subst (AllByRecursion (λ number. number < length marks)) left c.loop-child.invariant.1 in
    let fewer = fewer_nodes tops index child c.loop-child-test.true c.child-item.is in
    let same = ap nodes_of_models c.deref-child-items.ensures.value ∙ ap (λ top. top.children) c.node.view_is in (
      omega (arith, subst (λ nodes. node_count child.children < node_count nodes) same fewer, c.decreases),
      each-front (λ number. number < length marks) (all_numbers (as_nodes (below child))) (all_numbers rest) all,
    )

pub loop-child-preserved : goal.loop-child-preserved
loop-child-preserved t c =
    let tops = c.deref-child-items.result.now in
    let index = c.loop-child.child-index in
    let child = c.child-item.result in
    let marks = c.loop-child.marks in
    let new = c.mark_node.new.marks in
    let rest = nodes_of_models (drop (index + 1) tops) in
    let front = all_numbers (as_nodes (below child)) in
    let left = at_drop_more (λ l. all_numbers (nodes_of_models l)) tops index child c.loop-child-test.true
    ∙ ap (λ one. all_numbers (nodes_of_models (one ∷ drop (index + 1) tops))) (sym c.child-item.is)
    ∙ first_numbers child rest in
    let all = subst (AllByRecursion (λ number. number < length marks)) left c.loop-child.invariant.1 in
    let long : length new ≡ length marks = c.mark_node.auto.marks in (
      ap (with_marks (all_numbers rest)) c.mark_node.ensures
          ∙ sym (with_marks-append front (all_numbers rest) marks)
          ∙ sym (ap (λ numbers. with_marks numbers marks) left)
          ∙ c.loop-child.invariant.0,
      subst (λ n. AllByRecursion (λ number. number < n) (all_numbers rest)) (sym long)
          (each-back (λ number. number < length marks) front (all_numbers rest) all),
    )

pub returns : goal.returns
returns t c =
    let node = c.args.node.now in
    let tops = c.deref-child-items.result.now in
    let own = own_numbers (tree_properties c.deref.result.now) in
    let same_own : own ≡ own_numbers node.own =
    ap (λ properties. own_numbers (tree_properties properties)) c.deref.ensures.value ∙ ap (λ top. own_numbers top.own) c.node.view_is in
    let same : all_numbers (nodes_of_models tops) ≡ all_numbers node.children =
    ap (λ l. all_numbers (nodes_of_models l)) c.deref-child-items.ensures.value ∙ ap (λ top. all_numbers top.children) c.node.view_is in
    sym (ap (λ numbers. with_marks numbers c.loop-child.marks)
    (at_drop_all (λ l. all_numbers (nodes_of_models l)) tops c.loop-child.child-index c.loop-child-test.false))
    ∙ c.loop-child.invariant.0
    ∙ ap (with_marks (all_numbers (nodes_of_models tops))) c.mark_properties.ensures
    ∙ sym (with_marks-append own (all_numbers (nodes_of_models tops)) c.args.marks.now)
    ∙ ap (λ numbers. with_marks (numbers ++ all_numbers (nodes_of_models tops)) c.args.marks.now) same_own
    ∙ ap (λ numbers. with_marks (own_numbers node.own ++ numbers) c.args.marks.now) (same ∙ sym (append-nil (all_numbers node.children)))
