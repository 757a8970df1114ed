use Rattle.std.proofs.Common.{◌≡◌, ◌++◌, map, take}
use Rattle.bi_base.specs.Slices.{bytes_of}
use Rattle.bi_coverage.specs.Coverage.{Foreign, foreign_paths}
use Rattle.bi_coverage.specs.Values.{signature_concern}
use Rattle.bi_coverage.proofs.reading.add_foreign.Given as goal

abbrev pub invariant-loop-path : goal.invariant-loop-path
invariant-loop-path l =
    map signature_concern l.concerns.items
    ≡ map signature_concern l.initial.concerns.items ++ map Foreign (foreign_paths (bytes_of (take l.path-index l.path-items)) l.needed)
