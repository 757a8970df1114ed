use Rattle.std.proofs.Common.{◌≡◌, ◌≤◌, length, take}
use Rattle.std.specs.List.{sum_by}
use Rattle.bi_commands.specs.Parts.{input_length_of}
use Rattle.bi_commands.proofs.parts.check_lengths.Given as goal

-- The parts so far end at `start`, within the input.
abbrev pub invariant-loop-part : goal.invariant-loop-part
invariant-loop-part l = record {
  within : l.start ≤ length l.input;
  is_sum : l.start ≡ sum_by input_length_of (take l.part-index l.parts);
}
