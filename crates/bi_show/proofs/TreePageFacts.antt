use Rattle.std.proofs.Common.{◌≡◌, zero, suc, [], ◌∷◌, ◌++◌, inl, inr, codes, lit≤, ap, sym, refl, arith}
use Rattle.std.specs.Fmt.{digits}
use Rattle.bi_base.specs.Cells.{cell, cell8, u32_at}
use Rattle.bi_base.specs.Crc.{crc32, crc_after, low_bits}
use Rattle.bi_base.specs.Limits.{widest}
use Rattle.bi_base.specs.Strings.{text_before_nul}
use Rattle.bi_blob.specs.Layout.{text_of_events, text_of_blocks}
use Rattle.bi_coverage.specs.Signatures.{all_needed_length}
use Rattle.bi_fit.specs.Names.{default_name, value_name}
use Rattle.bi_fit.proofs.JudgementFacts.{find-properties}
use Rattle.bi_hash.specs.Algos.{find_algorithm}
use Rattle.bi_hash.specs.Digests.{digest_of}
use Rattle.bi_hash.specs.Verdicts.{verdict_of}
use Rattle.bi_legacy.specs.Laws.{OneLegacyMeaning}
use Rattle.bi_norm.specs.Comparing.{MeansOnly}
use Rattle.bi_norm.specs.Meaning.{OfFit}
use Rattle.bi_norm.proofs.KindLaws.{one_file_meaning}
use Rattle.bi_report.specs.Checking.{AreConcerns, OfImageTree as OfTreeConcerns}
use Rattle.bi_report.specs.SignedTrees.{IsOverCheckBound}
use Rattle.bi_show.specs.FitPages.{fit_regions}
use Rattle.bi_show.specs.KnownTreePages.{TreePagesAreKnown}
use Rattle.bi_show.specs.KnownTrees.{shown_default, shown_file, shown_signature}
use Rattle.bi_show.specs.Layouts.{layout_table}
use Rattle.bi_show.specs.ShownFiles.{AreConcernLines, OfImageTree}
use Rattle.bi_show.proofs.PageFacts.{Rise, by_offset, first_time}
use Rattle.bi_show.proofs.ShownTrees.{concerns_of_tree, file_root, shown_concerns, shown_meaning, shown_means}

-- The page of a small flattened image tree is known.

are_concerns : AreConcerns widest shown_file shown_concerns
unfolding shown_means text_of_events text_of_blocks cell cell8 u32_at
are_concerns = OfTreeConcerns shown_meaning shown_means (ap (λ concerns. concerns ++ []) (sym concerns_of_tree))

-- Its regions are by their offsets.
regions_rise : Rise (fit_regions shown_file file_root shown_meaning)
unfolding text_of_events text_of_blocks cell cell8 u32_at
regions_rise zero d within = lit≤ tt
regions_rise (suc zero) d within = lit≤ tt
regions_rise (suc (suc zero)) d within = lit≤ tt
regions_rise (suc (suc (suc zero))) d within = lit≤ tt
regions_rise (suc (suc (suc (suc k)))) d within = omega (arith, within)

-- Its payload is within the bound, and it has no signed node.
nothing_needed : all_needed_length shown_meaning ≡ 0
nothing_needed = rw (find-properties shown_signature value_name) refl

not_over : ¬ (IsOverCheckBound widest (OfFit shown_meaning))
not_over (inl over) = omega (arith, over)
not_over (inr over) = omega (arith, over, nothing_needed)

module _ (one_legacy : OneLegacyMeaning) where
  only_meaning : MeansOnly widest shown_file (OfFit shown_meaning)
  only_meaning = record {
    means = shown_means;
    only = λ other other_means. one_file_meaning one_legacy widest widest shown_file other (OfFit shown_meaning) other_means shown_means;
  }

  concern_lines : AreConcernLines widest shown_file (codes "weak-hash a crc32\n")
  concern_lines = record {
    meaning = OfFit shown_meaning;
    means = only_meaning;
    within = not_over;
    concerns = shown_concerns;
    are_concerns = are_concerns;
    is_text = refl;
  }

  pub tree_pages_are_known : TreePagesAreKnown
  unfolding shown_means digits text_of_events text_of_blocks cell cell8 u32_at text_before_nul verdict_of find_algorithm digest_of crc32
      crc_after low_bits
  tree_pages_are_known = record {
    layout = OfImageTree (record {
      tree = shown_meaning;
      means = shown_means;
      time = codes "1970-01-01 00:00:00 UTC";
      is_time = first_time;
      regions = layout_table (codes "a" ∷ []) (fit_regions shown_file file_root shown_meaning) 599 599;
      are_regions = record {
        sorted = fit_regions shown_file file_root shown_meaning;
        are_sorted = by_offset (fit_regions shown_file file_root shown_meaning) regions_rise;
        is = refl;
      };
      concerns = codes "weak-hash a crc32\n";
      are_concerns = concern_lines;
      is = rw (find-properties shown_default default_name) refl;
    });
    no_layout = OfImageTree (record {
      tree = shown_meaning;
      means = shown_means;
      time = codes "1970-01-01 00:00:00 UTC";
      is_time = first_time;
      regions = [];
      are_regions = refl;
      concerns = codes "weak-hash a crc32\n";
      are_concerns = concern_lines;
      is = rw (find-properties shown_default default_name) refl;
    });
  }
