use Rattle.std.proofs.Common.{◌≡◌, ◌++◌, map, drop}
use Rattle.std.specs.Option.{option_map}
use Rattle.bi_fdt.specs.Views.{node_of}
use Rattle.bi_blob.specs.Tree.{EachOwn}
use Rattle.bi_fit.specs.NormalNodes.{HasDistinctNames}
use Rattle.bi_fit.proofs.NodeEvents.{nodes_from}
use Rattle.bi_describe.specs.ImagePayloads.{bytes_of_payloads}
use Rattle.bi_describe.specs.MadeEntries.{images_entries}
use Rattle.bi_describe.specs.TreeEntries.{as_entry}
use Rattle.bi_describe.proofs.NextNodes.{HasOrderOfNext}
use Rattle.bi_describe.proofs.describe.image_nodes.add_image_nodes.Given as goal

-- The entries so far and those of the image nodes that are left are all.
abbrev pub invariant-loop-payload : goal.invariant-loop-payload
invariant-loop-payload l = record {
  order : HasOrderOfNext l.order l.next;
  distinct : EachOwn HasDistinctNames (nodes_from (option_map node_of l.next));
  left : map as_entry l.entries.items
      ++ images_entries (nodes_from (option_map node_of l.next)) (bytes_of_payloads (drop l.payload-index l.payloads))
      ≡ map as_entry l.fn.entries.items ++ images_entries (node_of l.node).children (bytes_of_payloads l.payloads);
}
