use Rattle.std.proofs.Common.{◌≡◌, ◌++◌, length, map}
use Rattle.std.specs.Option.{option_map}
use Rattle.bi_blob.specs.Lookups.{siblings}
use Rattle.bi_fdt.specs.Views.{node_of}
use Rattle.bi_blob.specs.Tree.{AreDistinct, EachOwn, names}
use Rattle.bi_fit.specs.NormalNodes.{HasDistinctNames}
use Rattle.bi_fit.proofs.NodeEvents.{nodes_from}
use Rattle.bi_describe.specs.ImagePayloads.{bytes_of_payloads}
use Rattle.bi_describe.specs.MadeEntries.{root_children_entries}
use Rattle.bi_describe.specs.TreeEntries.{as_entry}
use Rattle.bi_describe.proofs.NextNodes.{HasOrderOfNext}
use Rattle.bi_describe.proofs.describe.image_nodes.add_root_children.Given as goal

-- The entries so far and those of the nodes that are left are all.
abbrev pub invariant-loop-next : goal.invariant-loop-next
invariant-loop-next l = record {
  order : HasOrderOfNext l.order l.next;
  distinct : EachOwn HasDistinctNames (nodes_from (option_map node_of l.next));
  names : AreDistinct (names (nodes_from (option_map node_of l.next)));
  left : map as_entry l.entries.items ++ root_children_entries (nodes_from (option_map node_of l.next)) (bytes_of_payloads l.payloads)
      ≡ map as_entry l.fn.entries.items ++ root_children_entries (node_of l.root).children (bytes_of_payloads l.payloads);
}

abbrev pub decreases-loop-next : goal.decreases-loop-next
decreases-loop-next l = length (siblings (nodes_from (option_map node_of l.next)))
