use Rattle.std.proofs.Common.{Bool, arith, codes, false, inl, lit≤, refl, true, [], ◌∷◌}
use Rattle.bi_base.specs.Limits.{widest}
use Rattle.bi_blob.specs.KnownTexts.{smallest_text}
use Rattle.bi_common.specs.declared.format.Format.{Format}
use Rattle.bi_common.specs.declared.format.Format.TheVariants.{Lines, Json}
use Rattle.bi_describe.specs.Comparing.{comparison_text}
use Rattle.bi_describe.specs.ComparingWithout.{AreComparedWithout}
use Rattle.bi_describe.specs.Ignoring.{Ignored, IgnoredNode}
use Rattle.bi_describe.specs.KnownIgnored.{own_node}
use Rattle.bi_describe.proofs.ComparedWithoutFacts.{compared_without_is_known, ignored_values_are_known}
use Rattle.bi_describe.proofs.DescribedFileFacts.{bare, only_bare, only_smallest, small, tree_of_bare_file, tree_of_smallest_text}
use Rattle.bi_describe.proofs.IgnoredFacts.{ignored_words_are_known}
use Rattle.bi_describe.proofs.RefusalFacts.{reading_errors_are_known}
use Rattle.bi_describe.specs.declared.compare.CompareError.TheVariants.{One}
use Rattle.bi_legacy.specs.KnownImages.{kernel_file}
use Rattle.bi_norm.specs.KnownComparisons.{file_without_magic, no_magic}
use Rattle.bi_legacy.specs.Laws.{OneLegacyMeaning}
use Rattle.bi_fit.specs.KnownFiles.{bare_file}
use Rattle.bi_norm.specs.Meaning.{OfFit}
use Rattle.bi_c.specs.IgnoringCalls.{HasIgnoredWords, IsErrorAs}
use Rattle.bi_c.specs.KnownElements.{region_at_offset}
use Rattle.bi_c.specs.KnownIgnoringCalls.{IgnoringCallsAreKnown}
use Rattle.bi_c.specs.declared.argument.Argument.TheVariants.{Words}
use Rattle.bi_c.specs.Checks.{LimitsCheck}
use Rattle.bi_c.specs.PieceBuilding.{IsPieceInside}
use Rattle.bi_c.proofs.CheckFacts.{element_is_wrong}
use Rattle.bi_c.proofs.AnswerFacts.{widest_is_in_range}

-- What the calls return for small files that compare without what words name is known.

-- The word for the root, in a region of an input.
abbrev root_word : Ignored
root_word = IgnoredNode (own_node [])

root_words : HasIgnoredWords 0x7fffffff 64 (codes "x/") (region_at_offset 1 1 ∷ []) (root_word ∷ [])
root_words = record {
  arguments = record { limits = widest_is_in_range; inside = (lit≤ tt, tt) };
  are_words = record { first = root_word ∷ []; others = []; is_first = ignored_words_are_known.root; is_other = refl; are = refl };
}

-- Without the root, both trees are the same.
without_root : OneLegacyMeaning → (format : Format) →
    AreComparedWithout (record { words = root_word ∷ []; quiet = false; format = format }) widest smallest_text bare_file true
    (comparison_text format true [])
without_root one_legacy format = record {
  are = record {
    meaning = OfFit tree_of_smallest_text;
    other_meaning = OfFit tree_of_bare_file;
    means = only_smallest one_legacy;
    other_means = only_bare one_legacy;
  };
  described = small one_legacy;
  other_described = bare one_legacy;
  differs = record { is_same = (λ _. refl, λ _. refl); lines = []; are_lines = refl; empty = (λ _. refl, λ _. refl); is_text = refl };
}

pub ignoring_calls_are_known : OneLegacyMeaning → IgnoringCallsAreKnown
ignoring_calls_are_known one_legacy = record {
  words = record {
    arguments = record { limits = widest_is_in_range; inside = (lit≤ tt, (lit≤ tt, tt)) };
    are_words = ignored_values_are_known.two;
  };
  same = record {
    words = root_word ∷ [];
    arguments = root_words;
    same = true;
    number = refl;
    is = without_root one_legacy Lines;
  };
  same_json = record {
    words = root_word ∷ [];
    arguments = root_words;
    same = true;
    number = refl;
    is = without_root one_legacy Json;
  };
  different = record {
    words = [];
    arguments = record { arguments = record { limits = widest_is_in_range; inside = tt }; are_words = refl };
    same = _;
    number = refl;
    is = (compared_without_is_known one_legacy).different;
  };
  bad_word = λ deep one other. (
    record { limits = widest_is_in_range; inside = (lit≤ tt, (lit≤ tt, (lit≤ tt, tt))) },
    record { is_reason = refl; is_first = ignored_values_are_known.second },
  );
  outside = λ deep one other.
      element_is_wrong (LimitsCheck 0x7fffffff 64) Words (IsPieceInside (codes "time"))
      (region_at_offset 0 4 ∷ region_at_offset 1 4 ∷ []) 1 widest_is_in_range (record {
        element = region_at_offset 1 4;
        is_there = refl;
        before = (lit≤ tt, tt);
        is_wrong = λ is. omega (arith, is);
      });
  refused = λ deep. record {
    words = [];
    arguments = record { arguments = record { limits = widest_is_in_range; inside = tt }; are_words = refl };
    is_failure = (widest_is_in_range, inl (refl, first_is_refused deep));
  };
}
  where
    first_is_refused : (deep : Bool) → IsErrorAs deep widest file_without_magic kernel_file (One no_magic)
    first_is_refused false = inl reading_errors_are_known.only_first
    first_is_refused true = inl reading_errors_are_known.only_first
