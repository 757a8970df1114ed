use Rattle.std.proofs.Common.{◌≡◌, ◌++◌, length, drop}
use Rattle.bi_base.specs.Slices.{bytes_of}
use Rattle.bi_plain.specs.Ranked.{marked_names, marked_numbers}
use Rattle.bi_plain.proofs.writer.names.keep_marked.Given as goal

abbrev pub invariant-loop-index : goal.invariant-loop-index
invariant-loop-index l =
    (bytes_of l.kept.items ++ marked_names (bytes_of (drop l.index l.names)) (drop l.index l.marks) ≡ marked_names (bytes_of l.names)
    l.marks)
    × (l.numbers.items ++ marked_numbers (length l.kept.items) (bytes_of (drop l.index l.names)) (drop l.index l.marks)
    ≡ marked_numbers 0 (bytes_of l.names) l.marks)
