use Rattle.std.proofs.Common.{◌≡◌, length, map, max}
use Rattle.bi_fdt.specs.Content.{root_of}
use Rattle.bi_fit.specs.Judgement.{listed_names}
use Rattle.bi_coverage.specs.NodeIndices.{path_end}
use Rattle.bi_coverage.specs.Numbers.{greatest}
use Rattle.bi_coverage.proofs.node_index.NodeIndex.recorded_end.Given as goal

abbrev pub invariant-loop-path : goal.invariant-loop-path
invariant-loop-path l =
    max l.end (greatest (map (path_end l.self.file (root_of l.self)) (listed_names l.rest)))
    ≡ greatest (map (path_end l.self.file (root_of l.self)) (listed_names l.value))

abbrev pub decreases-loop-path : goal.decreases-loop-path
decreases-loop-path l = length l.rest
