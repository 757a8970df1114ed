use Rattle.std.proofs.Common.{◌≡◌, length}
use Rattle.std.specs.Option.{option_map}
use Rattle.bi_blob.specs.Tree.{EachOwn}
use Rattle.bi_blob.specs.Lookups.{siblings}
use Rattle.bi_blob.specs.Events.{events}
use Rattle.bi_fdt.specs.Views.{node_of}
use Rattle.bi_fit.specs.TakenDigests.{HaveDigests, after_digests}
use Rattle.bi_fit.specs.NormalNodes.{with_events, HasDistinctNames, nodes_by_name, sorted_image_children}
use Rattle.bi_fit.proofs.AddedEvents.{HasNextOrder}
use Rattle.bi_fit.proofs.NodeEvents.{nodes_from, IsAdding}
use Rattle.bi_fit.proofs.document.hash_nodes.add_children_with_digests.Given as goal

abbrev pub invariant-loop-next : goal.invariant-loop-next
invariant-loop-next l = record {
  adding : IsAdding l.doc (with_events l.fn.doc (events (sorted_image_children l.hashed l.digests (node_of l.node).children)))
      (sorted_image_children l.hashed l.left (nodes_from (option_map node_of l.next)));
  order : HasNextOrder l.doc.names l.order l.next;
  distinct : EachOwn HasDistinctNames (nodes_from (option_map node_of l.next));
  has_digests : HaveDigests l.hashed l.left (nodes_by_name (nodes_from (option_map node_of l.next)));
  same_end : after_digests l.hashed l.left (nodes_by_name (nodes_from (option_map node_of l.next)))
      ≡ after_digests l.hashed l.digests (nodes_by_name (node_of l.node).children);
}

abbrev pub decreases-loop-next : goal.decreases-loop-next
decreases-loop-next l = length (siblings (nodes_from (option_map node_of l.next)))
