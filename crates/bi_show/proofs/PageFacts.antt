use Rattle.std.proofs.Common.{◌≡◌, ℕ, ◌+◌, ◌/◌, ◌%◌, ◌<◌, ◌≤◌, zero, suc, List, [], ◌∷◌, ◌++◌, None, codes, get_or, length, sum, take}
use Rattle.std.proofs.Common.{inl, inr, lit≤, refl}
use Rattle.std.proofs.Common.{arith, rules}
use Rattle.std.specs.Fmt.{digits}
use Rattle.std.specs.List.{AllAdjacentBelow}
use Rattle.std.proofs.lemmas.List.Sorted.{IsPermutation-refl, IsNonDecreasingBy-from_all_adjacent}
use Rattle.bi_base.specs.Cells.{cell}
use Rattle.bi_base.specs.Limits.{Limits, widest}
use Rattle.bi_legacy.specs.File.{header}
use Rattle.bi_legacy.specs.KnownFiles.{kernel_file_with_rest}
use Rattle.bi_legacy.specs.KnownImages.{kernel_image, multi_file, multi_image}
use Rattle.bi_legacy.specs.Laws.{OneLegacyMeaning}
use Rattle.bi_norm.specs.Meaning.{OfLegacy}
use Rattle.bi_norm.proofs.ComparisonFacts.{kernel_with_rest_means, multi_means, only_image}
use Rattle.bi_report.specs.Checking.{OfLegacyImage, TrailingBytes, Unsigned}
use Rattle.bi_legacy.specs.Meaning.{LegacyImage}
use Rattle.bi_report.specs.SignedTrees.{IsOverCheckBound}
use Rattle.bi_report.proofs.LegacyConcernFacts.{is_read, known_model}
use Rattle.bi_show.specs.declared.show.layout.LayoutRegion.{LayoutRegion}
use Rattle.bi_show.specs.Dates.{IsTimeText, clock_text, date_text, days_of_years, month_lengths}
use Rattle.bi_show.specs.KnownPages.{CellsAreKnown, PagesAreKnown, TablesAreKnown, TimesAreKnown}
use Rattle.bi_show.specs.Layouts.{AreByOffset, layout_table, legacy_regions}
use Rattle.bi_show.proofs.DateFacts.{date_at}
use Rattle.bi_show.specs.ShownFiles.{AreConcernLines, OfLegacyImage as OfLegacyPage}

-- Times, tables, cells and pages of small images are known.

known_time : (seconds years index day : ℕ) (text : List ℕ) → index < 12 → 1 ≤ day → day ≤ get_or (month_lengths (1970 + years)) index 0 →
    seconds / 86400 + 1 ≡ days_of_years years + sum (take index (month_lengths (1970 + years))) + day →
    text
    ≡ date_text (record { year = 1970 + years; month = index + 1; day = day })
    ++ (32 ∷ (clock_text (seconds % 86400) ++ codes " UTC")) →
    IsTimeText seconds text
known_time seconds years index day text within from to is written =
    record { date = _; is_date = date_at (seconds / 86400) years index _ _ refl refl refl within from to is; is = written }

pub first_time : IsTimeText 0 (codes "1970-01-01 00:00:00 UTC")
first_time = known_time 0 0 0 1 _ (lit≤ tt) (lit≤ tt) (lit≤ tt) refl refl

pub times_are_known : TimesAreKnown
times_are_known = record {
  first = first_time;
  last_of_year = known_time 31535999 0 11 31 _ (lit≤ tt) (lit≤ tt) (lit≤ tt) refl refl;
  before_leap_day = known_time 951782399 30 1 28 _ (lit≤ tt) (lit≤ tt) (lit≤ tt) refl refl;
  leap_day = known_time 951782400 30 1 29 _ (lit≤ tt) (lit≤ tt) (lit≤ tt) refl refl;
  after_february = known_time 4107542400 130 2 1 _ (lit≤ tt) (lit≤ tt) (lit≤ tt) refl refl;
  last = known_time 4294967295 136 1 7 _ (lit≤ tt) (lit≤ tt) (lit≤ tt) refl refl;
}

pub tables_are_known : TablesAreKnown
tables_are_known = search rules

pub cells_are_known : CellsAreKnown
unfolding digits cell
cells_are_known = search rules

-- ---- layouts

-- If no region begins before the one before it, the regions are by their offsets.
abbrev pub Rise : List LayoutRegion → Type 0
Rise regions = AllAdjacentBelow (λ (one next : LayoutRegion). one.begin ≤ next.begin) regions (length regions)

pub by_offset : (regions : List LayoutRegion) → Rise regions → AreByOffset regions regions
by_offset regions rise = search (rules, IsPermutation-refl, IsNonDecreasingBy-from_all_adjacent)

kernel_rise : Rise (legacy_regions kernel_image)
unfolding cell
kernel_rise zero d within = lit≤ tt
kernel_rise (suc k) d within = omega (arith, within)

multi_rise : Rise (legacy_regions multi_image)
unfolding cell
multi_rise zero d within = lit≤ tt
multi_rise (suc zero) d within = lit≤ tt
multi_rise (suc (suc zero)) d within = lit≤ tt
multi_rise (suc (suc (suc k))) d within = omega (arith, within)

-- ---- pages

-- A legacy image is within the bounds of checking.
pub legacy_not_over : (limits : Limits) (image : LegacyImage) → ¬ (IsOverCheckBound limits (OfLegacy image))
legacy_not_over limits image (inl over) = over
legacy_not_over limits image (inr over) = over

module _ (one_legacy : OneLegacyMeaning) where
  kernel_concerns : AreConcernLines widest kernel_file_with_rest (codes "trailing 7\n")
  unfolding header cell digits
  kernel_concerns = record {
    meaning = OfLegacy kernel_image;
    means = only_image one_legacy kernel_file_with_rest kernel_image kernel_with_rest_means;
    within = legacy_not_over widest kernel_image;
    concerns = Unsigned None ∷ TrailingBytes 7 ∷ [];
    are_concerns =
        OfLegacyImage (known_model one_legacy kernel_file_with_rest kernel_image kernel_with_rest_means 7 refl)
        (is_read one_legacy kernel_file_with_rest kernel_image kernel_with_rest_means 7 refl) refl;
    is_text = refl;
  }

  multi_concerns : AreConcernLines widest multi_file []
  unfolding header cell
  multi_concerns = record {
    meaning = OfLegacy multi_image;
    means = only_image one_legacy multi_file multi_image multi_means;
    within = legacy_not_over widest multi_image;
    concerns = Unsigned None ∷ [];
    are_concerns =
        OfLegacyImage (known_model one_legacy multi_file multi_image multi_means 0 refl)
        (is_read one_legacy multi_file multi_image multi_means 0 refl) refl;
    is_text = refl;
  }

  pub pages_are_known : PagesAreKnown
  unfolding header cell digits
  pages_are_known = record {
    kernel = OfLegacyPage (record {
      parsed = known_model one_legacy kernel_file_with_rest kernel_image kernel_with_rest_means 7 refl;
      is_read = is_read one_legacy kernel_file_with_rest kernel_image kernel_with_rest_means 7 refl;
      time = codes "1970-01-01 00:00:00 UTC";
      is_time = first_time;
      regions = layout_table [] (legacy_regions kernel_image) 73 80;
      are_regions = record {
        sorted = legacy_regions kernel_image;
        are_sorted = by_offset (legacy_regions kernel_image) kernel_rise;
        is = refl;
      };
      concerns = codes "trailing 7\n";
      are_concerns = kernel_concerns;
      is = refl;
    });
    multi = OfLegacyPage (record {
      parsed = known_model one_legacy multi_file multi_image multi_means 0 refl;
      is_read = is_read one_legacy multi_file multi_image multi_means 0 refl;
      time = codes "1970-01-01 00:00:00 UTC";
      is_time = first_time;
      regions = layout_table [] (legacy_regions multi_image) 87 87;
      are_regions = record {
        sorted = legacy_regions multi_image;
        are_sorted = by_offset (legacy_regions multi_image) multi_rise;
        is = refl;
      };
      concerns = [];
      are_concerns = multi_concerns;
      is = refl;
    });
    no_layout = OfLegacyPage (record {
      parsed = known_model one_legacy multi_file multi_image multi_means 0 refl;
      is_read = is_read one_legacy multi_file multi_image multi_means 0 refl;
      time = codes "1970-01-01 00:00:00 UTC";
      is_time = first_time;
      regions = [];
      are_regions = refl;
      concerns = [];
      are_concerns = multi_concerns;
      is = refl;
    });
  }
