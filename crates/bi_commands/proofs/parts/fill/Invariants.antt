use Rattle.std.proofs.Common.{◌≡◌, ◌≤◌, length, take}
use Rattle.std.specs.List.{AllByRecursion, sum_by}
use Rattle.bi_base.specs.Cells.{AreBytes}
use Rattle.bi_base.specs.Slices.{bytes_of}
use Rattle.bi_commands.specs.Parts.{IsFilled, input_length_of}
use Rattle.bi_commands.proofs.parts.fill.Given as goal

-- The parts so far have the contents so far, and end at `start`, within the input.
abbrev pub invariant-loop-part : goal.invariant-loop-part
invariant-loop-part l = record {
  within : l.start ≤ length l.input;
  is_sum : l.start ≡ sum_by input_length_of (take l.part-index l.parts);
  filled : IsFilled (take l.part-index l.parts) (take l.start l.input) (bytes_of l.contents.items);
  bytes : AllByRecursion AreBytes (bytes_of l.contents.items);
}
