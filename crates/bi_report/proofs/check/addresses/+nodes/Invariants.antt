use Rattle.std.proofs.Common.{◌≡◌, ◌+◌, ◌*◌, ◌≤◌, ◌++◌, length}
use Rattle.std.specs.Option.{option_map}
use Rattle.bi_base.specs.Slices.{bytes_of}
use Rattle.bi_blob.specs.Tree.{depth}
use Rattle.bi_blob.specs.Lookups.{siblings}
use Rattle.bi_fdt.specs.Views.{node_of}
use Rattle.bi_fit.proofs.NodeEvents.{nodes_from}
use Rattle.bi_report.specs.ConcernValues.{name_lists}
use Rattle.bi_report.specs.SignedTrees.{addresses_below}
use Rattle.bi_report.proofs.check.addresses.+nodes.Given as goal

-- A node calls for its children, and these for each of them.
abbrev pub decreases-add_below : goal.decreases-add_below
decreases-add_below l = 2 * depth (node_of l.node).children

abbrev pub decreases-add_node : goal.decreases-add_node
decreases-add_node l = 2 * depth (node_of l.node).children + 1

-- The paths so far and those of the nodes that are left are all.
abbrev pub invariant-add_below-loop-next : goal.invariant-add_below-loop-next
invariant-add_below-loop-next l = record {
  left : name_lists l.paths.items ++ addresses_below (bytes_of l.names.items) (nodes_from (option_map node_of l.next))
      ≡ name_lists l.fn.paths.items ++ addresses_below (bytes_of l.fn.names.items) (node_of l.node).children;
  names : l.names.items ≡ l.fn.names.items;
  shallow : depth (nodes_from (option_map node_of l.next)) ≤ depth (node_of l.node).children;
}

abbrev pub decreases-add_below-loop-next : goal.decreases-add_below-loop-next
decreases-add_below-loop-next l = length (siblings (nodes_from (option_map node_of l.next)))
