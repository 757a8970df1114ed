use Rattle.std.proofs.Common.{drop}
use Rattle.bi_fit.specs.Kept.{AreAlignedInText}
use Rattle.bi_edit.specs.PlacedPayloads.{placed_list}
use Rattle.bi_edit.proofs.outside_payloads.are_aligned.Given as goal

-- If those that are left are aligned, all are; and the other way round.
abbrev pub invariant-loop-payload : goal.invariant-loop-payload
invariant-loop-payload l = record {
  all : AreAlignedInText l.alignment (placed_list (drop l.payload-index l.placed)) → AreAlignedInText l.alignment (placed_list l.placed);
  left : AreAlignedInText l.alignment (placed_list l.placed) → AreAlignedInText l.alignment (placed_list (drop l.payload-index l.placed));
}
