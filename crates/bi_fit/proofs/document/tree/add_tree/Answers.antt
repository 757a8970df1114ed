use Rattle.std.proofs.Common.{◌≡◌, sym, ap, subst, ◌∙◌}
use Rattle.bi_blob.specs.Events.{events}
use Rattle.bi_fdt.specs.Views.{node_of}
use Rattle.bi_fit.specs.Updating.{with_time}
use Rattle.bi_fit.specs.NormalNodes.{MayAdd, with_events, payloads_of, properties_by_name, begin_events, sorted_root_children}
use Rattle.bi_fit.proofs.AddedEvents.{still_ordered, begin_events-same, may_begin, may_have_children, may_end}
use Rattle.bi_fit.proofs.document.tree.add_tree.Goals as goal
use Rattle.bi_fit.proofs.document.tree.add_tree.Goals.{After-name}

-- The events with which the root begins.
begins : (c : After-name) → begin_events c.name.result.now c.set_time.new.self.by_name
    ≡ begin_events (node_of c.args.root).name (with_time c.args.parts.changes.time (properties_by_name (node_of c.args.root).own))
begins c =
    let s = node_of c.args.root in
    begin_events-same c.name.result.now s.name c.set_time.new.self.by_name
    (with_time c.args.parts.changes.time (properties_by_name s.own)) c.name.ensures
    (c.in_ok-set_time.ensures.set ∙ ap (with_time c.args.parts.changes.time) (ap (λ m. m.by_name) c.in_ok-properties.ensures))

pub from_node-requires-clause-order : goal.from_node-requires-clause-order
from_node-requires-clause-order c = c.requires.order.is_order

pub begin_with-requires-clause-names : goal.begin_with-requires-clause-names
begin_with-requires-clause-names c =
    c.requires.order.same_names ∙ sym (c.in_ok-set_time.ensures.same_names ∙ ap (λ m. m.names) c.in_ok-properties.ensures)

pub begin_with-requires-clause-may : goal.begin_with-requires-clause-may
begin_with-requires-clause-may c =
    let s = node_of c.args.root in
    subst (MayAdd c.args.doc.now) (sym (begins (goal.at.begin_with-requires-clause-may c).After-name))
    (may_begin c.args.doc.now (begin_events s.name (with_time c.args.parts.changes.time (properties_by_name s.own)))
    (events (sorted_root_children c.args.parts.changes.hashes c.args.parts.form
    (payloads_of c.args.parts.images.now) c.args.parts.digests.now s.children)) c.requires.may)

pub add_root_children-requires-clause-order : goal.add_root_children-requires-clause-order
add_root_children-requires-clause-order c =
    still_ordered c.args.parts.order.now c.args.root c.args.doc.now c.begin_with.new.doc _ c.in_ok-begin_with.ensures.added c.requires.order

pub add_root_children-requires-clause-may : goal.add_root_children-requires-clause-may
add_root_children-requires-clause-may c =
    let s = node_of c.args.root in
    may_have_children c.args.doc.now (begin_events s.name (with_time c.args.parts.changes.time (properties_by_name s.own)))
    (events (sorted_root_children c.args.parts.changes.hashes c.args.parts.form
    (payloads_of c.args.parts.images.now) c.args.parts.digests.now s.children)) c.begin_with.new.doc
    (c.in_ok-begin_with.ensures.added
    ∙ ap (with_events c.args.doc.now) (begins (goal.at.add_root_children-requires-clause-may c).After-name)) c.requires.may

pub end-requires : goal.end-requires
end-requires c =
    let s = node_of c.args.root in
    may_end c.args.doc.now (begin_events s.name (with_time c.args.parts.changes.time (properties_by_name s.own)))
    (events (sorted_root_children c.args.parts.changes.hashes c.args.parts.form
    (payloads_of c.args.parts.images.now) c.args.parts.digests.now s.children)) c.begin_with.new.doc c.add_root_children.new.doc
    (c.in_ok-begin_with.ensures.added ∙ ap (with_events c.args.doc.now) (begins (goal.at.end-requires c).After-name))
    c.in_ok-add_root_children.ensures.added c.requires.may
