use Rattle.std.proofs.Common.{◌≡◌, ◌≤◌, length, take}
use Rattle.std.specs.List.{sum}
use Rattle.bi_norm.proofs.cutting.check_lengths.Given as goal

-- The lengths so far end at `start`, within the input.
abbrev pub invariant-loop-piece_length : goal.invariant-loop-piece_length
invariant-loop-piece_length l = record {
  within : l.start ≤ length l.input;
  is_sum : l.start ≡ sum (take l.piece_length-index l.lengths);
}
