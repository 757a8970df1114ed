use Rattle.std.proofs.Common.{◌+◌, ◌*◌, ◌≤◌, ℕ, List, length}
use Rattle.std.specs.Option.{option_map}
use Rattle.bi_blob.specs.Tree.{EachOwn, depth}
use Rattle.bi_blob.specs.Lookups.{siblings}
use Rattle.bi_fdt.specs.Order.{IsNumberOrder}
use Rattle.bi_fdt.specs.Views.{node_of, table_of_node}
use Rattle.bi_fit.specs.NormalNodes.{HasDistinctNames}
use Rattle.bi_fit.proofs.NodeEvents.{nodes_from}
use Rattle.bi_plain.proofs.ReadLists.{IsReadingNodes, HasSameTable}
use Rattle.bi_plain.proofs.reader.+nodes.Given as goal

-- A node calls for its children, and these for each of them.
abbrev pub decreases-read_children : goal.decreases-read_children
decreases-read_children l = 2 * depth (node_of l.node).children

abbrev pub decreases-read_node : goal.decreases-read_node
decreases-read_node l = 2 * depth (node_of l.node).children + 1

abbrev pub invariant-read_children-loop-next : goal.invariant-read_children-loop-next
invariant-read_children-loop-next l = record {
  reading : (names : List (List ℕ)) → IsNumberOrder names (table_of_node l.node) l.order →
      IsReadingNodes names (node_of l.node).children l.children.items (nodes_from (option_map node_of l.next));
  table : HasSameTable (table_of_node l.node) l.next;
  distinct : EachOwn HasDistinctNames (nodes_from (option_map node_of l.next));
  shallow : depth (nodes_from (option_map node_of l.next)) ≤ depth (node_of l.node).children;
}

abbrev pub decreases-read_children-loop-next : goal.decreases-read_children-loop-next
decreases-read_children-loop-next l = length (siblings (nodes_from (option_map node_of l.next)))
