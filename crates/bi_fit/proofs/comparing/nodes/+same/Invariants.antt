use Rattle.std.proofs.Common.{◌≡◌, ◌↔◌, ◌+◌, ◌*◌, ◌≤◌, length}
use Rattle.std.specs.Prelude.{IfSome}
use Rattle.std.specs.Option.{option_map}
use Rattle.bi_blob.specs.Tree.{EachOwn, depth}
use Rattle.bi_blob.specs.Lookups.{siblings}
use Rattle.bi_fdt.specs.Views.{node_of, table_of_node}
use Rattle.bi_fit.specs.NormalNodes.{HasDistinctNames}
use Rattle.bi_fit.specs.ComparedNodes.{compared_nodes}
use Rattle.bi_fit.proofs.NodeEvents.{nodes_from}
use Rattle.bi_fit.proofs.comparing.nodes.+same.Given as goal

-- A node calls for its children, and these for each of them.
abbrev pub decreases-are_same_nodes : goal.decreases-are_same_nodes
decreases-are_same_nodes l = 2 * depth (node_of l.own).children + 1

abbrev pub decreases-have_same_children : goal.decreases-have_same_children
decreases-have_same_children l = 2 * depth (node_of l.own).children

abbrev pub invariant-have_same_children-loop-next : goal.invariant-have_same_children-loop-next
invariant-have_same_children-loop-next l = record {
  same : (compared_nodes l.role (nodes_from (option_map node_of l.next))
      ≡ compared_nodes l.role (nodes_from (option_map node_of l.other_next)))
      ↔ (compared_nodes l.role (node_of l.own).children ≡ compared_nodes l.role (node_of l.other).children);
  distinct : EachOwn HasDistinctNames (nodes_from (option_map node_of l.next));
  other_distinct : EachOwn HasDistinctNames (nodes_from (option_map node_of l.other_next));
  shallow : depth (nodes_from (option_map node_of l.next)) ≤ depth (node_of l.own).children;
  table : IfSome l.next (λ child. table_of_node child ≡ table_of_node l.own);
  other_table : IfSome l.other_next (λ child. table_of_node child ≡ table_of_node l.other);
}

abbrev pub decreases-have_same_children-loop-next : goal.decreases-have_same_children-loop-next
decreases-have_same_children-loop-next l = length (siblings (nodes_from (option_map node_of l.next)))
