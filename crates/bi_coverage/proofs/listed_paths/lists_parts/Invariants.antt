use Rattle.std.proofs.Common.{◌≡◌, ◌++◌, map, take}
use Rattle.bi_fit.specs.Judgement.{listed_names}
use Rattle.bi_coverage.specs.NeededParts.{part_value}
use Rattle.bi_coverage.specs.Signatures.{paths_of_parts}
use Rattle.bi_coverage.proofs.listed_paths.lists_parts.Given as goal

abbrev pub invariant-loop-part : goal.invariant-loop-part
invariant-loop-part l =
    listed_names l.value ≡ paths_of_parts (map part_value (take l.part-index l.parts)) ++ listed_names l.rest
