use Rattle.std.proofs.Common.{refl}
use Rattle.bi_base.specs.Cells.{cell, u32_at}
use Rattle.bi_fit.proofs.BuildFacts.{entries_in_order}
use Rattle.bi_fit.proofs.JudgementFacts.{find-properties}
use Rattle.bi_coverage.specs.KnownCoverage.{CoverageIsKnown}

-- The known coverage.

pub coverage_known : CoverageIsKnown
unfolding cell u32_at
coverage_known = record {
  covered = refl;
  uncovered = refl;
  foreign = refl;
  enough_strings = refl;
  short_strings = refl;
  other_strings = refl;
  all_uncovered = simp (find-properties, entries_in_order);
  no_list = simp (find-properties, entries_in_order);
  unsigned = simp (find-properties);
  needed = simp (find-properties, entries_in_order);
}
