use Rattle.std.proofs.Common.{◌≡◌, ◌+◌, ◌∷◌, map, drop, sym, ap, subst, ◌∙◌}
use Rattle.std.specs.FinMap.{entries}
use Rattle.std.specs.List.{AllByRecursion}
use Rattle.std.proofs.lemmas.List.{at_drop_more}
use Rattle.bi_base.proofs.ListMembers.{each-weaker}
use Rattle.bi_blob.specs.Tree.{none}
use Rattle.bi_blob.specs.Events.{events}
use Rattle.bi_fit.specs.declared.document.nodes.Leaf.{Leaf}
use Rattle.bi_fit.specs.Leaves.{leaf_model}
use Rattle.bi_fit.specs.NormalNodes.{with_events, leaf_nodes}
use Rattle.bi_fit.proofs.NodeEvents.{IsAdding, may_add_first, adding_later}
use Rattle.bi_fit.proofs.document.nodes.add_leaves.Goals as goal

pub add_leaf-requires-clause-may : goal.add_leaf-requires-clause-may
add_leaf-requires-clause-may c =
    let leaves = c.args.leaves.now in
    let index = c.loop-leaf.leaf-index in
    let leaf = c.leaf-item.result in
    let target = with_events c.args.doc.now (events (leaf_nodes (map leaf_model leaves))) in
    let later = leaf_nodes (map leaf_model (drop (index + 1) leaves)) in
    let left = at_drop_more (λ l. leaf_nodes (map leaf_model l)) leaves index leaf c.loop-leaf-test.true
    ∙ ap (λ leaf. leaf_nodes (leaf_model leaf ∷ map leaf_model (drop (index + 1) leaves))) (sym c.leaf-item.is) in
    may_add_first c.loop-leaf.doc target leaf.name.now (entries leaf.properties.by_name) none later
    (subst (IsAdding c.loop-leaf.doc target) left c.loop-leaf.invariant.adding)

pub loop-leaf-preserved : goal.loop-leaf-preserved
loop-leaf-preserved c =
    let leaves = c.args.leaves.now in
    let index = c.loop-leaf.leaf-index in
    let leaf = c.leaf-item.result in
    let target = with_events c.args.doc.now (events (leaf_nodes (map leaf_model leaves))) in
    let later = leaf_nodes (map leaf_model (drop (index + 1) leaves)) in
    let left = at_drop_more (λ l. leaf_nodes (map leaf_model l)) leaves index leaf c.loop-leaf-test.true
    ∙ ap (λ leaf. leaf_nodes (leaf_model leaf ∷ map leaf_model (drop (index + 1) leaves))) (sym c.leaf-item.is) in
    let added = c.in_ok-add_leaf.ensures.added in
    let named : (AllByRecursion (λ (leaf : Leaf). c.loop-leaf.doc.names ≡ leaf.properties.names) (drop index leaves)) =
    c.loop-leaf.invariant.names in
    let from = subst (AllByRecursion (λ (leaf : Leaf). c.loop-leaf.doc.names ≡ leaf.properties.names))
    (at_drop_more (λ l. l) leaves index leaf c.loop-leaf-test.true) named in
    record {
      adding = adding_later c.loop-leaf.doc target leaf.name.now (entries leaf.properties.by_name) none later
          (subst (IsAdding c.loop-leaf.doc target) left c.loop-leaf.invariant.adding) c.add_leaf.new.doc added;
      names = each-weaker (λ (leaf : Leaf). c.loop-leaf.doc.names ≡ leaf.properties.names)
          (λ (leaf : Leaf). c.add_leaf.new.doc.names ≡ leaf.properties.names)
          (λ leaf same. ap (λ document. document.names) added ∙ same) (drop (index + 1) leaves) from.1;
    }
