use Rattle.std.proofs.Common.{◌≡◌, [], ap, ◌∙◌, arith, refl, sym}
use Rattle.std.proofs.lemmas.Slice.Eq.{bytes_eq-Decides}
use Rattle.bi_tree.specs.TreeNodes.{nodes_of_models}
use Rattle.bi_tree.specs.Changes.{with_new_node}
use Rattle.bi_tree.proofs.NodeLists.{added_after, none_added, node_index}
use Rattle.bi_tree.proofs.node.child_or_new.Goals as goal

-- One node is added.
added : (c : goal.In_ok-push) →
    (nodes_of_models c.push.new.self.items ≡ with_new_node [] c.args.name.now (nodes_of_models c.args.children.now.items))
    × (c.find_child-index.result ≡ node_index c.args.name.now c.push.new.self.items)
added c =
    let both = added_after c.args.children.now.items c.deref.result.now c.deref.ensures.value c.find_child-index.result c.args.name.now
    c.find_child-index.ensures.index ((bytes_eq-Decides c.args.name.now c.args.name.now).1 refl) c.new.result c.new.ensures
    (omega (arith, c.if-index-len.true, c.len.ensures)) in (
      ap nodes_of_models c.in_ok-push.ensures.items ∙ both.0,
      both.1 ∙ ap (λ nodes. node_index c.args.name.now nodes) (sym c.in_ok-push.ensures.items),
    )

pub returns-in_ok-push-clause-nodes : goal.returns-in_ok-push-clause-nodes
returns-in_ok-push-clause-nodes c = (added c).0

pub returns-in_ok-push-clause-index : goal.returns-in_ok-push-clause-index
returns-in_ok-push-clause-index c = (added c).1

pub returns-else-index-len-clause-nodes : goal.returns-else-index-len-clause-nodes
returns-else-index-len-clause-nodes c =
    none_added c.args.children.now.items c.deref.result.now c.deref.ensures.value c.find_child-index.result c.args.name.now
    c.find_child-index.ensures.index
    (omega (arith, c.if-index-len.false, c.len.ensures, c.find_child-index.ensures.within, c.deref.ensures.len))
