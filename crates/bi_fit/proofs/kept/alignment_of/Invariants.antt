use Rattle.std.proofs.Common.{◌↔◌, ℕ, ◌≤◌, drop}
use Rattle.bi_fit.specs.Kept.{IsPower}
use Rattle.bi_fit.specs.KeptImages.{AreAlignedImages}
use Rattle.bi_fit.proofs.kept.alignment_of.Given as goal

-- The powers up to this one that divide the offsets from here on are those that divide all.
abbrev pub invariant-loop-image : goal.invariant-loop-image
invariant-loop-image l = record {
  is_power : IsPower l.power;
  same : (other : ℕ) → IsPower other
      → ((other ≤ l.power) × AreAlignedImages other (drop l.image-index l.images)) ↔ AreAlignedImages other l.images;
}
