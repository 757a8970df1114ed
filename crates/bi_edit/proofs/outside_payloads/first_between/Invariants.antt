use Rattle.std.proofs.Common.{ℕ, drop}
use Rattle.bi_fit.specs.Kept.{AreAlignedInFile}
use Rattle.bi_edit.specs.PlacedPayloads.{placed_list}
use Rattle.bi_edit.proofs.outside_payloads.first_between.Given as goal

-- If those that are left are aligned, all are; and the other way round.
abbrev pub invariant-loop-payload : goal.invariant-loop-payload
invariant-loop-payload l = record {
  all : AreAlignedInFile l.power (placed_list (drop l.payload-index l.placed)) → AreAlignedInFile l.power (placed_list l.placed);
  left : (other : ℕ) → AreAlignedInFile other (placed_list l.placed)
      → AreAlignedInFile other (placed_list (drop l.payload-index l.placed));
}
