use Rattle.std.proofs.Common.{length}
use Rattle.bi_fdt.specs.Content.{root_of}
use Rattle.bi_coverage.proofs.FoundNodes.{IsAtNode}
use Rattle.bi_coverage.proofs.node_index.NodeIndex.end_at.Given as goal

abbrev pub invariant-loop-name : goal.invariant-loop-name
invariant-loop-name l =
    IsAtNode l.self.file (root_of l.self) l.self-inside.children.items l.self-inside.ends.items l.fn.path l.number l.rest

abbrev pub decreases-loop-name : goal.decreases-loop-name
decreases-loop-name l = length l.rest
