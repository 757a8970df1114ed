use Rattle.std.proofs.Common.{◌≡◌, ◌+◌, ◌*◌, ◌≤◌, ◌++◌, length}
use Rattle.std.specs.Option.{option_map}
use Rattle.bi_blob.specs.Tree.{depth}
use Rattle.bi_blob.specs.Lookups.{siblings}
use Rattle.bi_fdt.specs.Views.{node_of}
use Rattle.bi_fit.proofs.NodeEvents.{nodes_from}
use Rattle.bi_c.specs.TreeElements.{tree_elements}
use Rattle.bi_c.specs.TreeRegions.{HaveNodeBytes}
use Rattle.bi_c.proofs.all_nodes.+nodes.Given as goal

-- A node calls for its children, and these for each of them.
abbrev pub decreases-add_children : goal.decreases-add_children
decreases-add_children l = 2 * depth (node_of l.node).children

abbrev pub decreases-add_node : goal.decreases-add_node
decreases-add_node l = 2 * depth (node_of l.node).children + 1

-- The elements so far and those of the nodes that are left are all.
abbrev pub invariant-add_children-loop-next : goal.invariant-add_children-loop-next
invariant-add_children-loop-next l = record {
  bytes : HaveNodeBytes l.file (nodes_from (option_map node_of l.next));
  left : l.elements.items ++ tree_elements l.file l.above (nodes_from (option_map node_of l.next))
      ≡ l.fn.elements.items ++ tree_elements l.file l.above (node_of l.node).children;
  shallow : depth (nodes_from (option_map node_of l.next)) ≤ depth (node_of l.node).children;
}

abbrev pub decreases-add_children-loop-next : goal.decreases-add_children-loop-next
decreases-add_children-loop-next l = length (siblings (nodes_from (option_map node_of l.next)))
