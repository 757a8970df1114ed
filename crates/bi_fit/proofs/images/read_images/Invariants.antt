use Rattle.std.proofs.Common.{length, map}
use Rattle.std.specs.Option.{option_map}
use Rattle.bi_fdt.specs.Views.{node_of}
use Rattle.bi_blob.specs.Lookups.{siblings_from}
use Rattle.bi_fit.specs.Content.{image_model}
use Rattle.bi_fit.proofs.ReadImages.{AreReadTo}
use Rattle.bi_fit.proofs.images.read_images.Given as goal

abbrev pub invariant-loop-next : goal.invariant-loop-next
invariant-loop-next l =
    AreReadTo l.file (node_of l.node).children (map image_model l.images.items) (siblings_from (option_map node_of l.next))

abbrev pub decreases-loop-next : goal.decreases-loop-next
decreases-loop-next l = length (siblings_from (option_map node_of l.next))
