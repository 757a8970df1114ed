use Rattle.std.proofs.Common.{◌≡◌, ◌≢◌, ◌↔◌, ◌⊎◌, ◌∙◌, ℕ, List, [], Bool, true, false, IsTrue, inl, inr, refl, sym, ap, subst, true≢false}
use Rattle.std.specs.Prelude.{if◌then◌else◌}
use Rattle.bi_base.specs.Limits.{Limits}
use Rattle.bi_norm.specs.declared.image.BootImage.{BootImage}
use Rattle.bi_norm.specs.Meaning.{Meaning}
use Rattle.bi_norm.specs.Reading.{IsReadBootImage, meaning_of}
use Rattle.bi_common.specs.declared.format.Format.{Format}
use Rattle.bi_common.specs.declared.format.Format.TheVariants.{Lines}
use Rattle.bi_describe.specs.declared.compare.CompareError.{CompareError}
use Rattle.bi_describe.specs.declared.compare.CompareError.TheVariants.{OutOfMemory}
use Rattle.bi_describe.specs.declared.describe.deep.DeepImage.{DeepImage}
use Rattle.bi_describe.specs.Comparing.{comparison_text}
use Rattle.bi_describe.specs.ComparingWithout.{IgnoringOptionsModel, text_without}
use Rattle.bi_describe.specs.DeepComparing.{AreComparedDeepWithout, AreDescribedDeep, AreDifferent, AreTheSame, IsDeepComparison}
use Rattle.bi_describe.specs.DeepComparing.{IsDeepComparisonError, IsDeepComparisonOf, IsDeepComparisonWithout, IsDeepDescribingError}
use Rattle.bi_describe.specs.DeepComparing.{IsDeepDifference, IsDeepIgnoringError, IsDescribedDeep, deep_comparison, deep_comparison_by}
use Rattle.bi_describe.specs.DeepComparing.{deep_differences_without, deep_of}
use Rattle.bi_describe.specs.DeepDescriptions.{deep_lines}
use Rattle.bi_describe.specs.Devicetrees.{DeepMeaning}
use Rattle.bi_describe.specs.Differences.{SignedLine, text_of_differences}
use Rattle.bi_describe.specs.Ignoring.{Ignored, PayloadPlace}
use Rattle.bi_describe.specs.MadeInsides.{IsDeepOf}
use Rattle.bi_describe.specs.OpenedPayloads.{AreSameDeep, deep_lines_without, is_opened, tree_at_without, unless_opened}
use Rattle.bi_describe.specs.ReducedMeanings.{meaning_without}
use Rattle.bi_describe.proofs.ComparedImages.{are_compared, memory_error, some_comparison}
use Rattle.bi_describe.proofs.KeptComparisons.{meanings_of}

-- Two files that were read are compared with what is inside.

-- ---- errors

abbrev pub described_deep : (limits : Limits) (meaning : Meaning) (made : DeepImage) → IsDeepOf Lines limits meaning made →
    IsDescribedDeep limits meaning
described_deep limits meaning made is = record { insides = is.insides; are_inside = is.are_inside; within = is.within }

pub deep_error_of_one : (limits : Limits) (one other : Meaning) (error : CompareError) →
    (error ≡ OutOfMemory) ⊎ ((other : Meaning) → IsDeepDescribingError limits one other error) →
    (error ≡ OutOfMemory) ⊎ IsDeepDescribingError limits one other error
deep_error_of_one limits one other error (inl memory) = inl memory
deep_error_of_one limits one other error (inr describing) = inr (describing other)

pub deep_error_of_other : (limits : Limits) (one other : Meaning) (error : CompareError) → IsDescribedDeep limits one →
    (error ≡ OutOfMemory) ⊎ ((one : Meaning) → IsDescribedDeep limits one → IsDeepDescribingError limits one other error) →
    (error ≡ OutOfMemory) ⊎ IsDeepDescribingError limits one other error
deep_error_of_other limits one other error described (inl memory) = inl memory
deep_error_of_other limits one other error described (inr describing) = inr (describing one described)

-- The error of describing one of two files that differ.
pub deep_describing_error : (limits : Limits) (one other : List ℕ) (image other_image : BootImage) (same : Bool) (error : CompareError) →
    IsReadBootImage limits one image → IsReadBootImage limits other other_image →
    IsTrue same ↔ (meaning_of image ≡ meaning_of other_image) → same ≡ false → (error ≡ OutOfMemory) ⊎ IsDeepDescribingError limits (meaning_of image) (meaning_of other_image) error →
    IsDeepComparisonError limits one other error
deep_describing_error limits one other image other_image same error opened other_opened is is_false (inl memory) =
    inl (memory_error limits one other image error opened memory)
deep_describing_error limits one other image other_image same error opened other_opened is is_false (inr describing) =
    inr (record {
      compared = are_compared limits one other image other_image false opened other_opened
          (subst (λ b. IsTrue b ↔ (meaning_of image ≡ meaning_of other_image)) is_false is);
      is_error = describing;
    })

-- The error of describing one of two files, of which something is left out.
pub deep_ignoring_error : (limits : Limits) (one other : List ℕ) (image other_image : BootImage) (error : CompareError) →
    IsReadBootImage limits one image → IsReadBootImage limits other other_image →
    (error ≡ OutOfMemory) ⊎ IsDeepDescribingError limits (meaning_of image) (meaning_of other_image) error →
    IsDeepIgnoringError limits one other error
deep_ignoring_error limits one other image other_image error opened other_opened (inl memory) =
    inl (memory_error limits one other image error opened memory)
deep_ignoring_error limits one other image other_image error opened other_opened (inr describing) =
    inr (record { are = meanings_of limits one other image other_image opened other_opened; is_error = describing })

-- ---- nothing is left out

-- Two meanings that are the same have no differences.
pub same_deep : (format : Format) (limits : Limits) (one other : Meaning) (text : List ℕ) → text ≡ comparison_text format true [] →
    IsDeepComparisonOf format limits one other true text
same_deep format limits one other text is =
    record { lines = []; differences = AreTheSame refl; empty = (λ empty. refl, λ is_same. refl); is_text = is }

-- The differences of two meanings that are not the same.
pub different_deep : (format : Format) (limits : Limits) (one other : Meaning) (text : List ℕ) (lines : List SignedLine)
    (first : IsDescribedDeep limits one) (second : IsDescribedDeep limits other) →
    lines ≡ deep_comparison (deep_of first) (deep_of second) → text ≡ comparison_text format false lines →
    IsDeepComparisonOf format limits one other false text
different_deep format limits one other text lines first second is is_text = record {
  lines = lines;
  differences = AreDifferent (record { first = first; second = second }) is;
  empty = (
    (λ empty. absurd (some_comparison one other (deep_lines (deep_of first)) (deep_lines (deep_of second))
        (ap text_of_differences (sym is) ∙ empty))),
    (λ is_same. absurd (true≢false (sym is_same))),
  );
  is_text = is_text;
}

-- What differs between two files that were read.
pub deep_files_compared : (format : Format) (limits : Limits) (one other : List ℕ) (image other_image : BootImage) (same known : Bool)
    (text : List ℕ) → IsReadBootImage limits one image → IsReadBootImage limits other other_image →
    IsTrue same ↔ (meaning_of image ≡ meaning_of other_image) → same ≡ known →
    IsDeepComparisonOf format limits (meaning_of image) (meaning_of other_image) known text →
    IsDeepComparison format limits one other same text
deep_files_compared format limits one other image other_image same known text opened other_opened is is_known differs = record {
  compared = are_compared limits one other image other_image same opened other_opened is;
  differs = subst (λ b. IsDeepComparisonOf format limits (meaning_of image) (meaning_of other_image) b text) (sym is_known) differs;
}

-- ---- something is left out

-- What stays of two meanings is the same.
pub same_inside : (words : List Ignored) (one other : DeepMeaning) (places : PayloadPlace → Bool) (rest trees : Bool) →
    ((place : PayloadPlace) → places place ≡ is_opened words one.insides other.insides place) →
    IsTrue rest ↔ (unless_opened places (meaning_without words one.meaning) ≡ unless_opened places (meaning_without words other.meaning)) →
    IsTrue trees ↔ ((place : PayloadPlace) → IsTrue (places place) →
    tree_at_without words one.insides place ≡ tree_at_without words other.insides place) →
    (IsTrue rest × IsTrue trees) ↔ AreSameDeep words one other
same_inside words one other places rest trees are rest_same trees_same =
    let opened = is_opened words one.insides other.insides in
    let all : places ≡ opened = (λ i place. are place i) in (
      (λ both. record {
        rest = subst (λ those. unless_opened those (meaning_without words one.meaning)
            ≡ unless_opened those (meaning_without words other.meaning)) all (rest_same.0 both.0);
        trees = λ place is. trees_same.0 both.1 place (are place ∙ is);
      }),
      (λ same. (
        rest_same.1 (subst (λ those. unless_opened those (meaning_without words one.meaning)
            ≡ unless_opened those (meaning_without words other.meaning)) (sym all) same.rest),
        trees_same.1 (λ place is. same.trees place (sym (are place) ∙ is)),
      )),
    )

-- If they are the same, they are but for the payloads that are opened.
pub same_rest : (words : List Ignored) (one other : DeepMeaning) (places : PayloadPlace → Bool) →
    ((place : PayloadPlace) → places place ≡ is_opened words one.insides other.insides place) → AreSameDeep words one other →
    unless_opened places (meaning_without words one.meaning) ≡ unless_opened places (meaning_without words other.meaning)
same_rest words one other places are same =
    let all : places ≡ is_opened words one.insides other.insides = (λ i place. are place i) in
    subst (λ those. unless_opened those (meaning_without words one.meaning) ≡ unless_opened those (meaning_without words other.meaning))
    (sym all) same.rest

-- There are differences if and only if meanings are not the same.
none_if_same : (words : List Ignored) (one other : DeepMeaning) (same : Bool) →
    (text_of_differences (deep_differences_without words one other same) ≡ []) ↔ IsTrue same
none_if_same words one other true = (λ empty. refl, λ is. refl)
none_if_same words one other false =
    let opened = is_opened words one.insides other.insides in (
      (λ empty. absurd (some_comparison one.meaning other.meaning (deep_lines_without words opened one)
          (deep_lines_without words opened other) empty)),
      (λ is. absurd (true≢false (sym is))),
    )

-- The result of comparing what stays.
pub compared_inside : (options : IgnoringOptionsModel) (one other : DeepMeaning) (places : PayloadPlace → Bool) (same : Bool)
    (text : List ℕ) → ((place : PayloadPlace) → places place ≡ is_opened options.words one.insides other.insides place) →
    IsTrue same ↔ AreSameDeep options.words one other →
    text ≡ text_without options same (if same then [] else deep_comparison_by options.words places one other) →
    IsDeepDifference options one other same text
compared_inside options one other places same text are is is_text =
    let all : places ≡ is_opened options.words one.insides other.insides = (λ i place. are place i) in
    record {
      is_same = is;
      lines = deep_differences_without options.words one other same;
      are_lines = refl;
      empty = none_if_same options.words one other same;
      is_text = is_text
          ∙ ap (λ those. text_without options same (if same then [] else deep_comparison_by options.words those one other)) all;
    }

pub deep_files_without : (options : IgnoringOptionsModel) (limits : Limits) (one other : List ℕ) (image other_image : BootImage)
    (same : Bool) (text : List ℕ) → IsReadBootImage limits one image → IsReadBootImage limits other other_image →
    IsDeepComparisonWithout options limits (meaning_of image) (meaning_of other_image) same text →
    AreComparedDeepWithout options limits one other same text
deep_files_without options limits one other image other_image same text opened other_opened differs = record {
  are = meanings_of limits one other image other_image opened other_opened;
  differs = differs;
}
