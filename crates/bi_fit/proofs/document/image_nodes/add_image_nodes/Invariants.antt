use Rattle.std.proofs.Common.{◌≡◌}
use Rattle.std.specs.Option.{option_map}
use Rattle.bi_blob.specs.Events.{events}
use Rattle.bi_fdt.specs.Views.{node_of}
use Rattle.bi_fit.specs.NormalNodes.{with_events, payloads_of, sorted_images}
use Rattle.bi_fit.proofs.AddedEvents.{HasNextOrder}
use Rattle.bi_fit.proofs.NodeEvents.{nodes_from}
use Rattle.bi_fit.proofs.ImageNodes.{AreImagesLeft}
use Rattle.bi_fit.proofs.document.image_nodes.add_image_nodes.Given as goal

abbrev pub invariant-loop-child : goal.invariant-loop-child
invariant-loop-child l = record {
  left : AreImagesLeft l.parts.changes.hashes l.parts.form l.doc (with_events l.fn.doc
      (events (sorted_images l.parts.changes.hashes l.parts.form 0
      (payloads_of l.parts.images.now) l.parts.digests.now (node_of l.node).children)))
      l.area.end (payloads_of l.child-iterator.images.now) l.left (nodes_from (option_map node_of l.child-iterator.next));
  order : HasNextOrder l.doc.names l.parts.order.now l.child-iterator.next;
  form : l.area.form ≡ l.parts.form;
}
