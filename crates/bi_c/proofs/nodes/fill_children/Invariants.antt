use Rattle.std.proofs.Common.{length, map}
use Rattle.std.specs.Option.{option_map}
use Rattle.bi_blob.specs.Lookups.{siblings_from}
use Rattle.bi_fdt.specs.Views.{node_of}
use Rattle.bi_c.specs.TreeRegions.{children_of_found, name_region_of}
use Rattle.bi_c.proofs.ArrayFilling.{IsFilling}
use Rattle.bi_c.proofs.nodes.fill_children.Given as goal

-- The regions of the names of the nodes that are left are not yet written.
abbrev pub invariant-loop-next : goal.invariant-loop-next
invariant-loop-next l =
    IsFilling (map name_region_of (children_of_found (option_map node_of l.parent)))
    (map name_region_of (siblings_from (option_map node_of l.next))) l.index l.initial.names l.names

abbrev pub decreases-loop-next : goal.decreases-loop-next
decreases-loop-next l = length (siblings_from (option_map node_of l.next))
