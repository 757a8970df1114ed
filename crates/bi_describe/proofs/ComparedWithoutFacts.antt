use Rattle.std.proofs.Common.{◌≡◌, ◌↔◌, ◌∙◌, ℕ, Bool, true, false, IsTrue, List, [], ◌∷◌, codes, inl, inr, lit≤, lit<, refl, sym, ap}
use Rattle.std.proofs.Common.{arith, true≢false}
use Rattle.std.specs.Fmt.{digits}
use Rattle.bi_base.specs.Limits.{widest}
use Rattle.bi_legacy.specs.KnownFaults.{limited_to}
use Rattle.bi_legacy.specs.KnownImages.{kernel_file}
use Rattle.bi_legacy.specs.Laws.{OneLegacyMeaning}
use Rattle.bi_norm.specs.Comparing.{MeansOnly}
use Rattle.bi_norm.specs.Meaning.{OfFit, OfLegacy}
use Rattle.bi_norm.proofs.KindLaws.{one_file_meaning}
use Rattle.bi_describe.specs.ComparingWithout.{AreMeanings, comparison_without}
use Rattle.bi_describe.specs.Differences.{text_of_differences}
use Rattle.bi_describe.specs.IgnoringLaws.{AreComparedWhole}
use Rattle.bi_describe.specs.ReducedMeanings.{AreSameWithout}
use Rattle.bi_describe.specs.Ignoring.{IgnoredPart, IgnoredTime}
use Rattle.bi_describe.specs.KnownComparedWithout.{ComparedWithoutIsKnown, IgnoredValuesAreKnown, IgnoringErrorsAreKnown}
use Rattle.bi_describe.specs.KnownRefusals.{longer_meaning}
use Rattle.bi_describe.proofs.DescribedFileFacts.{bare, tree_of_bare_file, both_differ, image_count, new_lines, only_bare, only_smallest}
use Rattle.bi_describe.proofs.DescribedFileFacts.{small, tree_of_smallest_text}
use Rattle.bi_describe.proofs.IgnoredFacts.{ignored_words_are_known}
use Rattle.bi_describe.proofs.NothingLeftOut.{nothing_left_out_compares}
use Rattle.bi_describe.proofs.RefusalFacts.{description_bounds_are_known, kernel_means_within, reading_errors_are_known}
use Rattle.bi_fit.proofs.FileFacts.{bare_means, smallest_means}
use Rattle.bi_blob.specs.KnownTexts.{smallest_text}
use Rattle.bi_fit.specs.KnownFiles.{bare_file}

-- Small files that are compared without something.

module _ (one_legacy : OneLegacyMeaning) where
  abbrev both_mean : AreMeanings widest smallest_text bare_file
  both_mean = record {
    meaning = OfFit tree_of_smallest_text;
    other_meaning = OfFit tree_of_bare_file;
    means = only_smallest one_legacy;
    other_means = only_bare one_legacy;
  }

  whole : AreComparedWhole (OfFit tree_of_smallest_text) (OfFit tree_of_bare_file)
  whole = nothing_left_out_compares widest widest smallest_text bare_file (OfFit tree_of_smallest_text) (OfFit tree_of_bare_file)
      smallest_means bare_means

  differ : IsTrue false ↔ AreSameWithout [] (OfFit tree_of_smallest_text) (OfFit tree_of_bare_file)
  differ = (λ no. absurd (true≢false (sym no)), λ same. absurd (omega (arith, ap image_count (whole.is_same.0 same))))

  -- The lines that differ.
  are_new : new_lines one_legacy ≡ comparison_without [] (OfFit tree_of_smallest_text) (OfFit tree_of_bare_file)
  are_new = both_differ one_legacy ∙ sym whole.differences

  some_lines : (text_of_differences (new_lines one_legacy) ≡ []) ↔ IsTrue false
  some_lines = (λ none. absurd cc, λ no. absurd (true≢false (sym no)))

  pub compared_without_is_known : ComparedWithoutIsKnown
  compared_without_is_known = record {
    same = record {
      are = both_mean;
      described = small one_legacy;
      other_described = bare one_legacy;
      differs = record { is_same = (λ _. refl, λ _. refl); lines = []; are_lines = refl; empty = (λ _. refl, λ _. refl); is_text = refl };
    };
    same_json = record {
      are = both_mean;
      described = small one_legacy;
      other_described = bare one_legacy;
      differs = record { is_same = (λ _. refl, λ _. refl); lines = []; are_lines = refl; empty = (λ _. refl, λ _. refl); is_text = refl };
    };
    different = record {
      are = both_mean;
      described = small one_legacy;
      other_described = bare one_legacy;
      differs = record {
        is_same = differ;
        lines = new_lines one_legacy;
        are_lines = are_new;
        empty = some_lines;
        is_text = refl;
      };
    };
    quiet = record {
      are = both_mean;
      described = small one_legacy;
      other_described = bare one_legacy;
      differs = record {
        is_same = differ;
        lines = new_lines one_legacy;
        are_lines = are_new;
        empty = some_lines;
        is_text = refl;
      };
    };
  }

  -- The kernel image alone has these bytes, whatever the limit.
  kernel_alone : MeansOnly (limited_to 191) kernel_file longer_meaning
  kernel_alone = record {
    means = kernel_means_within 191 (lit≤ tt);
    only = λ other means. one_file_meaning one_legacy (limited_to 191) (limited_to 191) kernel_file other longer_meaning means
        (kernel_means_within 191 (lit≤ tt));
  }

  pub ignoring_errors_are_known : IgnoringErrorsAreKnown
  ignoring_errors_are_known = record {
    no_magic_first = inl reading_errors_are_known.only_first;
    no_magic_second = inl reading_errors_are_known.only_second;
    too_long = inr (record {
      are = record { meaning = longer_meaning; other_meaning = longer_meaning; means = kernel_alone; other_means = kernel_alone };
      is_error = (description_bounds_are_known.longer_is_over, refl);
    });
  }

-- ---- values

pub ignored_values_are_known : IgnoredValuesAreKnown
unfolding digits
ignored_values_are_known = record {
  two = record {
    first = IgnoredTime ∷ [];
    others = IgnoredPart 0 ∷ [];
    is_first = inl (record { is_plain = tt; is = refl }, tt);
    is_other = record { first = IgnoredPart 0 ∷ []; others = []; is_first = ignored_words_are_known.part; is_other = refl; are = refl };
    are = refl;
  };
  second = record {
    within = lit< tt;
    before = IgnoredTime ∷ [];
    is_before = record {
      first = IgnoredTime ∷ [];
      others = [];
      is_first = inl (record { is_plain = tt; is = refl }, tt);
      is_other = refl;
      are = refl;
    };
    is_bad = ignored_words_are_known.empty_value;
  };
  made = refl;
  made_place = refl;
  made_node = λ place. refl;
  made_options = λ options. refl;
}
