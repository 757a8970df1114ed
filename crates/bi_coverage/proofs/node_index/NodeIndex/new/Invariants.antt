use Rattle.std.proofs.Common.{drop, length, map}
use Rattle.bi_fdt.specs.Content.{root_of}
use Rattle.bi_fdt.specs.Views.{node_of}
use Rattle.bi_coverage.specs.Numbers.{sum_of}
use Rattle.bi_coverage.proofs.GrownIndices.{IsGrownIndex, size}
use Rattle.bi_coverage.proofs.node_index.NodeIndex.new.Given as goal

abbrev pub invariant-next_node : goal.invariant-next_node
invariant-next_node l = IsGrownIndex l.blob.file (root_of l.blob) (map node_of l.nodes.items) l.children.items l.ends.items

abbrev pub decreases-next_node : goal.decreases-next_node
decreases-next_node l = sum_of (map size (drop (length l.children.items) (map node_of l.nodes.items)))
