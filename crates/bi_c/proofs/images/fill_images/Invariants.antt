use Rattle.std.proofs.Common.{length}
use Rattle.std.specs.Option.{option_map}
use Rattle.bi_blob.specs.Lookups.{siblings, siblings_from}
use Rattle.bi_fdt.specs.Content.{root_of}
use Rattle.bi_fdt.specs.Views.{node_of}
use Rattle.bi_fit.specs.Content.{payloads_of_models}
use Rattle.bi_fit.specs.ImageTree.{image_nodes, nodes_or_none}
use Rattle.bi_c.specs.ImageElements.{image_elements}
use Rattle.bi_c.proofs.ImageElements.{AreElementsLeft}
use Rattle.bi_c.proofs.images.fill_images.Given as goal

-- The elements of the image nodes that are left are still to be written.
abbrev pub invariant-loop-next : goal.invariant-loop-next
invariant-loop-next l =
    let file = l.fit.blob.file in
    let nodes = siblings (nodes_or_none (image_nodes (root_of l.fit.blob))) in
    AreElementsLeft file (image_elements file nodes (payloads_of_models l.fit.images))
    l.images l.initial.elements (siblings_from (option_map node_of l.next)) l.index l.elements

abbrev pub decreases-loop-next : goal.decreases-loop-next
decreases-loop-next l = length (siblings_from (option_map node_of l.next))
