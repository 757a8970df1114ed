use Rattle.std.proofs.Common.{◌+◌, ◌*◌, ◌≤◌, length}
use Rattle.std.specs.Option.{option_map}
use Rattle.bi_blob.specs.Tree.{EachOwn, depth}
use Rattle.bi_blob.specs.Lookups.{siblings}
use Rattle.bi_blob.specs.Events.{events}
use Rattle.bi_fdt.specs.Views.{node_of}
use Rattle.bi_fit.specs.NormalNodes.{with_events, HasDistinctNames, sorted_nodes}
use Rattle.bi_fit.proofs.AddedEvents.{HasNextOrder}
use Rattle.bi_fit.proofs.NodeEvents.{nodes_from, IsAdding}
use Rattle.bi_fit.proofs.document.nodes.+nodes.Given as goal

-- A node calls for its children, and these for each of them.
abbrev pub decreases-add_children : goal.decreases-add_children
decreases-add_children l = 2 * depth (node_of l.node).children

abbrev pub decreases-add_node : goal.decreases-add_node
decreases-add_node l = 2 * depth (node_of l.node).children + 1

abbrev pub invariant-add_children-loop-next : goal.invariant-add_children-loop-next
invariant-add_children-loop-next l = record {
  adding : IsAdding l.doc (with_events l.fn.doc (events (sorted_nodes (node_of l.node).children)))
      (sorted_nodes (nodes_from (option_map node_of l.next)));
  order : HasNextOrder l.doc.names l.order l.next;
  distinct : EachOwn HasDistinctNames (nodes_from (option_map node_of l.next));
  shallow : depth (nodes_from (option_map node_of l.next)) ≤ depth (node_of l.node).children;
}

abbrev pub decreases-add_children-loop-next : goal.decreases-add_children-loop-next
decreases-add_children-loop-next l = length (siblings (nodes_from (option_map node_of l.next)))
