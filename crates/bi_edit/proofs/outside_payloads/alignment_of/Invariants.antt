use Rattle.std.proofs.Common.{ℕ, ◌≤◌}
use Rattle.bi_fit.specs.Kept.{AreAlignedInFile, IsPower}
use Rattle.bi_edit.specs.PlacedPayloads.{placed_list}
use Rattle.bi_edit.proofs.outside_payloads.alignment_of.Given as goal

-- The powers that divide all offsets are at most this one.
abbrev pub invariant-loop-power : goal.invariant-loop-power
invariant-loop-power l = record {
  is_power : IsPower l.power;
  most : (other : ℕ) → IsPower other → AreAlignedInFile other (placed_list l.placed) → other ≤ l.power;
}

abbrev pub decreases-loop-power : goal.decreases-loop-power
decreases-loop-power l = l.power
