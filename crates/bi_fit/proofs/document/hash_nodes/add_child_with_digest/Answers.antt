use Rattle.std.proofs.Common.{◌≡◌, sym, ap, subst, ◌∙◌}
use Rattle.bi_blob.specs.Events.{events}
use Rattle.bi_fdt.specs.Views.{node_of}
use Rattle.bi_fit.specs.TakenDigests.{algorithm_if_hashed}
use Rattle.bi_fit.specs.NormalNodes.{MayAdd, with_events, begin_events, properties_by_name, sorted_nodes}
use Rattle.bi_fit.proofs.AddedEvents.{still_ordered, may_begin, may_have_children, may_end}
use Rattle.bi_fit.proofs.ImageNodes.{child_begin, child_begins}
use Rattle.bi_fit.proofs.document.hash_nodes.add_child_with_digest.Goals as goal
use Rattle.bi_fit.proofs.document.hash_nodes.add_child_with_digest.Goals.{After-name, then-hashed, else-hashed}

-- The events with which the node begins.
begins : (c : After-name) → begin_events c.name.result.now c.set_digest.new.self.by_name
    ≡ child_begin c.args.hashed c.args.digests.now (node_of c.args.node)
begins c =
    let s = node_of c.args.node in
    let algo : c.if-hashed.algo ≡ algorithm_if_hashed c.args.hashed s.name (properties_by_name s.own) = elim c.if-hashed.branch [
      | then-hashed w ↦ rw w.if-hashed.true (w.algo-is ∙ w.hash_algo-algo.ensures)
      | else-hashed w ↦ rw w.if-hashed.false w.algo-is
    ] in
    child_begins c.args.hashed c.args.digests.now s c.if-hashed.algo c.name.result.now c.in_ok-properties.properties.by_name
    c.set_digest.new.self.by_name algo c.name.ensures (ap (λ m. m.by_name) c.in_ok-properties.ensures) c.in_ok-left.ensures.set

pub from_node-requires-clause-order : goal.from_node-requires-clause-order
from_node-requires-clause-order c = c.requires.order.is_order

pub begin_with-requires-clause-names : goal.begin_with-requires-clause-names
begin_with-requires-clause-names c =
    c.requires.order.same_names ∙ sym (c.in_ok-left.ensures.same_names ∙ ap (λ m. m.names) c.in_ok-properties.ensures)

pub begin_with-requires-clause-may : goal.begin_with-requires-clause-may
begin_with-requires-clause-may c =
    let s = node_of c.args.node in
    subst (MayAdd c.args.doc.now) (sym (begins (goal.at.begin_with-requires-clause-may c).After-name))
    (may_begin c.args.doc.now (child_begin c.args.hashed c.args.digests.now s) (events (sorted_nodes s.children)) c.requires.may)

pub add_children-requires-clause-order : goal.add_children-requires-clause-order
add_children-requires-clause-order c =
    still_ordered c.args.order.now c.args.node c.args.doc.now c.begin_with.new.doc _ c.in_ok-begin_with.ensures.added c.requires.order

pub add_children-requires-clause-may : goal.add_children-requires-clause-may
add_children-requires-clause-may c =
    let s = node_of c.args.node in
    may_have_children c.args.doc.now (child_begin c.args.hashed c.args.digests.now s)
    (events (sorted_nodes s.children)) c.begin_with.new.doc
    (c.in_ok-begin_with.ensures.added
    ∙ ap (with_events c.args.doc.now) (begins (goal.at.add_children-requires-clause-may c).After-name)) c.requires.may

pub end-requires : goal.end-requires
end-requires c =
    let s = node_of c.args.node in
    may_end c.args.doc.now (child_begin c.args.hashed c.args.digests.now s)
    (events (sorted_nodes s.children)) c.begin_with.new.doc c.add_children.new.doc
    (c.in_ok-begin_with.ensures.added ∙ ap (with_events c.args.doc.now) (begins (goal.at.end-requires c).After-name))
    c.in_ok-add_children.ensures.added c.requires.may
