use Rattle.std.proofs.Common.{◌≡◌, length, map, drop}
use Rattle.bi_base.specs.Slices.{bytes_of}
use Rattle.bi_legacy.specs.Parts.{parts_end_from}
use Rattle.bi_legacy.proofs.emitting.end_within.Given as goal

-- The parts that are left end where all of them do.
abbrev pub invariant-loop-part : goal.invariant-loop-part
invariant-loop-part l =
    let sizes = map length (bytes_of l.parts) in parts_end_from l.start sizes ≡ parts_end_from l.end (drop l.part-index sizes)
