use Rattle.std.proofs.Common.{length}
use Rattle.std.specs.Option.{option_map}
use Rattle.bi_blob.specs.Tree.{EachOwn}
use Rattle.bi_blob.specs.Lookups.{siblings}
use Rattle.bi_blob.specs.Events.{events}
use Rattle.bi_fdt.specs.Views.{node_of}
use Rattle.bi_fit.specs.NormalNodes.{with_events, HasDistinctNames, HaveImageNodes, AreImageNodes, payloads_of, sorted_root_children}
use Rattle.bi_fit.specs.TextNodes.{HaveImagesAfter}
use Rattle.bi_fit.proofs.AddedEvents.{HasNextOrder}
use Rattle.bi_fit.proofs.NodeEvents.{nodes_from, IsAdding}
use Rattle.bi_fit.proofs.document.tree.add_root_children.Given as goal

abbrev pub invariant-loop-next : goal.invariant-loop-next
invariant-loop-next l = record {
  adding : IsAdding l.doc (with_events l.fn.doc
      (events (sorted_root_children l.parts.changes.hashes l.parts.form
      (payloads_of l.parts.images.now) l.parts.digests.now (node_of l.root).children)))
      (sorted_root_children l.parts.changes.hashes l.parts.form (payloads_of l.parts.images.now) l.parts.digests.now
      (nodes_from (option_map node_of l.next)));
  order : HasNextOrder l.doc.names l.parts.order.now l.next;
  distinct : EachOwn HasDistinctNames (nodes_from (option_map node_of l.next));
  images : HaveImageNodes (AreImageNodes l.parts.changes.hashes l.parts.images.now l.parts.digests.now)
      (nodes_from (option_map node_of l.next));
  position : HaveImagesAfter l.before_images (nodes_from (option_map node_of l.next));
}

abbrev pub decreases-loop-next : goal.decreases-loop-next
decreases-loop-next l = length (siblings (nodes_from (option_map node_of l.next)))
