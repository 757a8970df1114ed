use Rattle.bi_blob.specs.Events.{events}
use Rattle.bi_fdt.specs.Views.{node_of}
use Rattle.bi_fit.specs.NormalNodes.{payloads_of, properties_by_name, begin_events, sorted_images}
use Rattle.bi_fit.proofs.AddedEvents.{still_ordered, may_begin, may_have_children, may_end}
use Rattle.bi_fit.proofs.document.image_nodes.add_images.Goals as goal

pub begin_node-requires-clause-may : goal.begin_node-requires-clause-may
begin_node-requires-clause-may c =
    let s = node_of c.args.node in
    may_begin c.args.doc.now (begin_events s.name (properties_by_name s.own))
    (events (sorted_images c.args.parts.changes.hashes c.args.parts.form 0
    (payloads_of c.args.parts.images.now) c.args.parts.digests.now s.children)) c.requires.may

pub add_image_nodes-requires-clause-order : goal.add_image_nodes-requires-clause-order
add_image_nodes-requires-clause-order c =
    still_ordered c.args.parts.order.now c.args.node c.args.doc.now c.begin_node.new.doc _ c.in_ok-begin_node.ensures.added c.requires.order

pub add_image_nodes-requires-clause-may : goal.add_image_nodes-requires-clause-may
add_image_nodes-requires-clause-may c =
    let s = node_of c.args.node in
    may_have_children c.args.doc.now (begin_events s.name (properties_by_name s.own))
    (events (sorted_images c.args.parts.changes.hashes c.args.parts.form 0
    (payloads_of c.args.parts.images.now) c.args.parts.digests.now s.children))
    c.begin_node.new.doc c.in_ok-begin_node.ensures.added c.requires.may

pub end-requires : goal.end-requires
end-requires c =
    let s = node_of c.args.node in
    may_end c.args.doc.now (begin_events s.name (properties_by_name s.own))
    (events (sorted_images c.args.parts.changes.hashes c.args.parts.form 0
    (payloads_of c.args.parts.images.now) c.args.parts.digests.now s.children))
    c.begin_node.new.doc c.add_image_nodes.new.doc c.in_ok-begin_node.ensures.added c.in_ok-add_image_nodes.ensures.added c.requires.may
