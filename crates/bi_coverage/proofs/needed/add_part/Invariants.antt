use Rattle.std.proofs.Common.{◌≡◌, map, take}
use Rattle.bi_coverage.specs.Paths.{with_all_new}
use Rattle.bi_coverage.proofs.needed.add_part.Given as goal

abbrev pub invariant-loop-path : goal.invariant-loop-path
invariant-loop-path l =
    l.paths ≡ with_all_new l.initial.paths (map (λ path. path.items) (take l.path-index l.part.below.items))
