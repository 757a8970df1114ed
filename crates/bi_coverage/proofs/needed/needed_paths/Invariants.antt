use Rattle.std.proofs.Common.{◌≡◌, map, take}
use Rattle.bi_coverage.specs.Paths.{each_once}
use Rattle.bi_coverage.specs.Signatures.{paths_of_parts}
use Rattle.bi_coverage.specs.NeededParts.{part_value}
use Rattle.bi_coverage.proofs.needed.needed_paths.Given as goal

abbrev pub invariant-loop-part : goal.invariant-loop-part
invariant-loop-part l = l.paths ≡ each_once (paths_of_parts (map part_value (take l.part-index l.parts)))
