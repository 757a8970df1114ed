use Rattle.std.proofs.Common.{◌≡◌, ◌++◌, map, take}
use Rattle.bi_coverage.specs.Coverage.{uncovered_concerns}
use Rattle.bi_coverage.specs.Values.{signature_concern}
use Rattle.bi_coverage.specs.NeededParts.{part_value}
use Rattle.bi_coverage.proofs.reading.add_uncovered.Given as goal

abbrev pub invariant-loop-part : goal.invariant-loop-part
invariant-loop-part l =
    map signature_concern l.concerns.items
    ≡ map signature_concern l.initial.concerns.items ++ uncovered_concerns l.recorded (map part_value (take l.part-index l.parts))
