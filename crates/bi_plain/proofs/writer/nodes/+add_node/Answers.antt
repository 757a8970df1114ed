use Rattle.std.proofs.Common.{◌≡◌, ◌+◌, ◌<◌, ◌∷◌, drop, refl, sym, ap, subst, ◌∙◌, arith}
use Rattle.std.proofs.lemmas.List.{at_drop_all, at_drop_more}
use Rattle.std.specs.Cmp.Lexicographic.{slice_cmp}
use Rattle.std.specs.List.Sorted.{IsStrictlySortedBy}
use Rattle.std.specs.Ordering.{nat_cmp}
use Rattle.bi_blob.specs.Tree.{node_count}
use Rattle.bi_blob.specs.Events.{events}
use Rattle.bi_fit.specs.NormalNodes.{MayAdd, with_events}
use Rattle.bi_fit.proofs.AddedEvents.{may_begin, may_end, may_have_children, whole_added}
use Rattle.bi_fit.proofs.NodeEvents.{IsAdding, adding_all, adding_later, adding_none, may_add_first}
use Rattle.bi_tree.specs.Properties.{tree_properties}
use Rattle.bi_tree.specs.TreeNodes.{below, nodes_of_models}
use Rattle.bi_plain.specs.Ranked.{AreRankedNodes, alone_named, sorted_models, sorted_own, start_events}
use Rattle.bi_plain.proofs.NodeNumbers.{fewer_nodes}
use Rattle.bi_plain.proofs.writer.nodes.+add_node.Goals as goal

pub begin_node-requires-clause-may : goal.begin_node-requires-clause-may
begin_node-requires-clause-may t c =
    let node = c.args.node.now in
    let own : tree_properties c.deref.result.now ≡ node.own =
    ap tree_properties c.deref.ensures.value ∙ ap (λ top. top.own) c.node.view_is in
    subst (λ own. MayAdd c.args.doc.now (start_events c.args.name.now own)) (sym own)
    (may_begin c.args.doc.now (start_events c.args.name.now node.own) (events (sorted_models node.children)) c.requires.may)

pub loop-child-init : goal.loop-child-init
loop-child-init t c =
    let node = c.args.node.now in
    let document = c.args.doc.now in
    let begun = c.begin_node.new.doc in
    let tops = c.deref-child-items.result.now in
    let start = start_events c.args.name.now node.own in
    let own : tree_properties c.deref.result.now ≡ node.own =
    ap tree_properties c.deref.ensures.value ∙ ap (λ top. top.own) c.node.view_is in
    let same : nodes_of_models tops ≡ node.children =
    ap nodes_of_models c.deref-child-items.ensures.value ∙ ap (λ top. top.children) c.node.view_is in
    let is : begun ≡ with_events document start =
    c.in_ok-begin_node.ensures.added ∙ ap (λ own. with_events document (start_events c.args.name.now own)) own in (
      adding_all begun (sorted_models (nodes_of_models tops))
          (subst (λ nodes. MayAdd begun (events (sorted_models nodes))) (sym same)
          (may_have_children document start (events (sorted_models node.children)) begun is c.requires.may)),
      refl,
      subst (λ names. AreRankedNodes names c.args.ranks.now (nodes_of_models tops)) (sym (ap (λ document. document.names) is))
          (subst (AreRankedNodes document.names c.args.ranks.now) (sym same) c.requires.ranked.1),
    )

pub add_node-requires : goal.add_node-requires
add_node-requires t c =
    let node = c.args.node.now in
    let document = c.loop-child.doc in
    let tops = c.deref-child-items.result.now in
    let index = c.loop-child.child-index in
    let child = c.child-item.result in
    let rest = nodes_of_models (drop (index + 1) tops) in
    let target = with_events c.begin_node.new.doc (events (sorted_models (nodes_of_models tops))) in
    let left = at_drop_more nodes_of_models tops index child c.loop-child-test.true
    ∙ ap (λ one. nodes_of_models (one ∷ drop (index + 1) tops)) (sym c.child-item.is) in
    let same : nodes_of_models tops ≡ node.children =
    ap nodes_of_models c.deref-child-items.ensures.value ∙ ap (λ top. top.children) c.node.view_is in
    let named : c.child.inside.name.now ≡ child.name = ap (λ top. top.name) c.child.view_is in
    let ranked = subst (AreRankedNodes document.names c.args.ranks.now) left c.loop-child.invariant.2 in
    let begun_names : c.begin_node.new.doc.names ≡ c.args.doc.now.names = ap (λ document. document.names)
    c.in_ok-begin_node.ensures.added in (
      omega (
        arith,
        subst (λ nodes. node_count child.children < node_count nodes) same
            (fewer_nodes tops index child c.loop-child-test.true c.child-item.is),
        c.decreases,
      ),
      (
        subst (λ names. IsStrictlySortedBy (slice_cmp nat_cmp) names) (sym (c.loop-child.invariant.1 ∙ begun_names)) c.requires.in_order,
        (
          (ranked.0, ranked.1, tt),
          subst (λ name. MayAdd document (events (sorted_models (alone_named name (below child))))) (sym named)
              (may_add_first document target child.name (sorted_own child.own) (sorted_models child.children) (sorted_models rest)
              (subst (λ nodes. IsAdding document target (sorted_models nodes)) left c.loop-child.invariant.0)),
        ),
      ),
    )

pub loop-child-preserved : goal.loop-child-preserved
loop-child-preserved t c =
    let document = c.loop-child.doc in
    let more = c.add_node.new.doc in
    let tops = c.deref-child-items.result.now in
    let index = c.loop-child.child-index in
    let child = c.child-item.result in
    let rest = nodes_of_models (drop (index + 1) tops) in
    let target = with_events c.begin_node.new.doc (events (sorted_models (nodes_of_models tops))) in
    let left = at_drop_more nodes_of_models tops index child c.loop-child-test.true
    ∙ ap (λ one. nodes_of_models (one ∷ drop (index + 1) tops)) (sym c.child-item.is) in
    let named : c.child.inside.name.now ≡ child.name = ap (λ top. top.name) c.child.view_is in
    let ranked = subst (AreRankedNodes document.names c.args.ranks.now) left c.loop-child.invariant.2 in
    let added : more ≡ with_events document (events (sorted_models (alone_named child.name (below child)))) =
    c.in_ok-add_node.ensures.added
    ∙ ap (λ name. with_events document (events (sorted_models (alone_named name (below child))))) named in (
      adding_later document target child.name (sorted_own child.own) (sorted_models child.children) (sorted_models rest)
          (subst (λ nodes. IsAdding document target (sorted_models nodes)) left c.loop-child.invariant.0) more added,
      ap (λ document. document.names) added ∙ c.loop-child.invariant.1,
      subst (λ names. AreRankedNodes names c.args.ranks.now rest) (sym (ap (λ document. document.names) added)) ranked.2,
    )

pub end-requires : goal.end-requires
end-requires t c =
    let node = c.args.node.now in
    let document = c.args.doc.now in
    let begun = c.begin_node.new.doc in
    let filled = c.loop-child.doc in
    let tops = c.deref-child-items.result.now in
    let start = start_events c.args.name.now node.own in
    let target = with_events begun (events (sorted_models (nodes_of_models tops))) in
    let own : tree_properties c.deref.result.now ≡ node.own =
    ap tree_properties c.deref.ensures.value ∙ ap (λ top. top.own) c.node.view_is in
    let same : nodes_of_models tops ≡ node.children =
    ap nodes_of_models c.deref-child-items.ensures.value ∙ ap (λ top. top.children) c.node.view_is in
    let is : begun ≡ with_events document start =
    c.in_ok-begin_node.ensures.added ∙ ap (λ own. with_events document (start_events c.args.name.now own)) own in
    let none = at_drop_all nodes_of_models tops c.loop-child.child-index c.loop-child-test.false in
    let all : filled ≡ with_events begun (events (sorted_models node.children)) =
    adding_none filled target (subst (λ nodes. IsAdding filled target (sorted_models nodes)) none c.loop-child.invariant.0)
    ∙ ap (λ nodes. with_events begun (events (sorted_models nodes))) same in
    may_end document start (events (sorted_models node.children)) begun filled is all c.requires.may

pub returns : goal.returns
returns t c =
    let node = c.args.node.now in
    let document = c.args.doc.now in
    let begun = c.begin_node.new.doc in
    let filled = c.loop-child.doc in
    let tops = c.deref-child-items.result.now in
    let start = start_events c.args.name.now node.own in
    let target = with_events begun (events (sorted_models (nodes_of_models tops))) in
    let own : tree_properties c.deref.result.now ≡ node.own =
    ap tree_properties c.deref.ensures.value ∙ ap (λ top. top.own) c.node.view_is in
    let same : nodes_of_models tops ≡ node.children =
    ap nodes_of_models c.deref-child-items.ensures.value ∙ ap (λ top. top.children) c.node.view_is in
    let is : begun ≡ with_events document start =
    c.in_ok-begin_node.ensures.added ∙ ap (λ own. with_events document (start_events c.args.name.now own)) own in
    let none = at_drop_all nodes_of_models tops c.loop-child.child-index c.loop-child-test.false in
    let all : filled ≡ with_events begun (events (sorted_models node.children)) =
    adding_none filled target (subst (λ nodes. IsAdding filled target (sorted_models nodes)) none c.loop-child.invariant.0)
    ∙ ap (λ nodes. with_events begun (events (sorted_models nodes))) same in
    record { added = c.end.ensures ∙ whole_added document start (events (sorted_models node.children)) begun filled is all }
