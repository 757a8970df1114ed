use Rattle.std.proofs.Common.{◌≡◌, ◌+◌, ◌*◌, ◌≤◌, ◌++◌, length, map}
use Rattle.std.specs.Option.{option_map}
use Rattle.bi_blob.specs.Tree.{EachOwn, depth}
use Rattle.bi_blob.specs.Lookups.{siblings}
use Rattle.bi_fdt.specs.Views.{node_of}
use Rattle.bi_fit.specs.NormalNodes.{HasDistinctNames}
use Rattle.bi_fit.proofs.NodeEvents.{nodes_from}
use Rattle.bi_describe.specs.MadeEntries.{plain_entries}
use Rattle.bi_describe.specs.TreeEntries.{as_entry}
use Rattle.bi_describe.proofs.NextNodes.{HasOrderOfNext}
use Rattle.bi_describe.proofs.describe.nodes.+nodes.Given as goal

-- A node calls for its children, and these for each of them.
abbrev pub decreases-add_children : goal.decreases-add_children
decreases-add_children l = 2 * depth (node_of l.node).children

abbrev pub decreases-add_node : goal.decreases-add_node
decreases-add_node l = 2 * depth (node_of l.node).children + 1

-- The entries so far and those of the nodes that are left are all.
abbrev pub invariant-add_children-loop-next : goal.invariant-add_children-loop-next
invariant-add_children-loop-next l = record {
  order : HasOrderOfNext l.order l.next;
  distinct : EachOwn HasDistinctNames (nodes_from (option_map node_of l.next));
  left : map as_entry l.entries.items ++ plain_entries (nodes_from (option_map node_of l.next))
      ≡ map as_entry l.fn.entries.items ++ plain_entries (node_of l.node).children;
  shallow : depth (nodes_from (option_map node_of l.next)) ≤ depth (node_of l.node).children;
}

abbrev pub decreases-add_children-loop-next : goal.decreases-add_children-loop-next
decreases-add_children-loop-next l = length (siblings (nodes_from (option_map node_of l.next)))
