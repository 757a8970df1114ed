use Rattle.std.proofs.Common.{◌≡◌, ℕ, Bool, false, List, refl, subst, sym}
use Rattle.std.specs.List.{AllByRecursion}
use Rattle.bi_base.specs.Limits.{Limits, IsInRange}
use Rattle.bi_common.specs.declared.format.Format.{Format}
use Rattle.bi_describe.specs.IgnoredWords.{AreWordsOfValues}
use Rattle.bi_describe.specs.Ignoring.{Ignored}
use Rattle.bi_describe.specs.declared.compare.CompareError.{CompareError}
use Rattle.bi_describe.specs.declared.compare.CompareError.TheVariants as compare
use Rattle.bi_c.specs.declared.failure.Failure.{Failure}
use Rattle.bi_c.specs.declared.failure.Failure.TheVariants.{WrongArgument, Refused, OutOfMemory, NotFound}
use Rattle.bi_c.specs.declared.region.Region.{Region}
use Rattle.bi_c.specs.Arguments.{bounds}
use Rattle.bi_c.specs.Calls.{failure_of_compare_error, flag}
use Rattle.bi_c.specs.IgnoringCalls.{Comparing, ComparingErrors, HasIgnoredWords, IsIgnoringFailure, IsWithoutWords, IsWordsFailure}
use Rattle.bi_c.specs.IgnoringCalls.{WordsCheck, pieces_in}
use Rattle.bi_c.specs.PieceBuilding.{IsPieceInside}
use Rattle.bi_c.proofs.ComparedFiles.{failed_of_two}
use Rattle.bi_c.specs.declared.argument.Argument.{Argument}
use Rattle.bi_c.specs.declared.argument.Argument.TheVariants.{Words}
use Rattle.bi_c.specs.Checks.{IsWrong, LimitsCheck}
use Rattle.bi_c.proofs.CheckFacts.{element_is_wrong}

-- A call from C compares two files without what its words name, or fails as reading the words or comparing the files fails.

module _ (AreCompared : Comparing) (HasError : ComparingErrors) (limit depth : ℕ) (input : List ℕ) (regions : List Region)
    (one other : List ℕ) (in_range : IsInRange limit depth) where
  -- If the regions have no words, the call fails.
  pub words_failed : (failure : Failure) → IsWordsFailure input regions failure →
      IsIgnoringFailure HasError limit depth input regions one other failure
  words_failed (WrongArgument found index) none =
      subst (λ (wrong : Argument). IsWrong (WordsCheck limit depth input regions) wrong index) (sym none.0)
      (element_is_wrong (LimitsCheck limit depth) Words (IsPieceInside input) regions index in_range none.1)
  words_failed OutOfMemory none = in_range
  words_failed (NotFound reason index) none = (record { limits = in_range; inside = none.0 }, none.1)
  words_failed (Refused file fault) none = absurd none

  module _ (limits : Limits) (words : List Ignored) (inside : AllByRecursion (IsPieceInside input) regions)
      (same : limits ≡ bounds limit depth) (are : AreWordsOfValues (pieces_in input regions) words) where
    has_words : HasIgnoredWords limit depth input regions words
    has_words = record { arguments = record { limits = in_range; inside = inside }; are_words = are }

    pub without_words : (format : Format) (told : Bool) (text : List ℕ) →
        AreCompared (record { words = words; quiet = false; format = format }) limits one other told text →
        IsWithoutWords AreCompared format limit depth input regions one other text (flag told)
    without_words format told text is = record {
      words = words;
      arguments = has_words;
      same = told;
      number = refl;
      is = subst (λ (l : Limits). AreCompared (record { words = words; quiet = false; format = format }) l one other told text) same
          is;
    }

    pub not_without_words : (cause : CompareError) → HasError limits one other cause →
        IsIgnoringFailure HasError limit depth input regions one other (failure_of_compare_error cause)
    not_without_words (compare.One fault) is = record {
      words = words;
      arguments = has_words;
      is_failure = failed_of_two limit depth (λ l. HasError l one other) limits (compare.One fault) (Refused 1 fault) in_range
          same refl is;
    }
    not_without_words (compare.Other fault) is = record {
      words = words;
      arguments = has_words;
      is_failure = failed_of_two limit depth (λ l. HasError l one other) limits (compare.Other fault) (Refused 2 fault) in_range
          same refl is;
    }
    not_without_words compare.OutOfMemory is = in_range
