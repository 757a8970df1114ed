use Rattle.std.proofs.Common.{◌≡◌, take}
use Rattle.bi_commands.specs.Parts.{parts_of_lengths}
use Rattle.bi_commands.proofs.parts.pieces.Given as goal

-- The parts so far are those of the lengths so far.
abbrev pub invariant-loop-length : goal.invariant-loop-length
invariant-loop-length l = l.parts.items ≡ parts_of_lengths (take l.length-index l.lengths)
