use Rattle.std.proofs.Common.{◌≡◌, ◌≢◌, ◌↔◌, ◌⊎◌, ◌∙◌, ◌++◌, ℕ, List, [], ◌∷◌, Bool, true, false, IsTrue, inl, inr, refl, sym, ap, subst}
use Rattle.std.proofs.Common.{codes}
use Rattle.std.proofs.Common.{arith, length, length-append, true≢false}
use Rattle.bi_base.specs.declared.fault.Error.{Error}
use Rattle.bi_base.specs.declared.fault.Error.TheVariants.{Refused, OutOfMemory as NoMemory, ReadFailed, WriteFailed}
use Rattle.bi_base.specs.declared.fault.Fault.{Fault}
use Rattle.bi_base.specs.Limits.{Limits}
use Rattle.bi_common.specs.Lines.{Line, text_of_lines}
use Rattle.bi_fit.specs.Content.{FitModel}
use Rattle.bi_legacy.specs.Reading.{LegacyModel}
use Rattle.bi_norm.specs.declared.image.BootImage.{BootImage}
use Rattle.bi_norm.specs.declared.image.BootImage.TheVariants.{Legacy, Fit}
use Rattle.bi_norm.specs.Comparing.{AreCompared}
use Rattle.bi_norm.specs.Meaning.{Meaning, OfLegacy, OfFit}
use Rattle.bi_norm.specs.Reading.{IsBootImageReadError, NeedsMemory, meaning_of, IsReadBootImage}
use Rattle.bi_norm.proofs.NormalForms.{needs_memory}
use Rattle.bi_common.specs.declared.format.Format.{Format}
use Rattle.bi_common.specs.declared.format.Format.TheVariants.{Lines}
use Rattle.bi_describe.specs.declared.compare.CompareError.{CompareError}
use Rattle.bi_describe.specs.declared.compare.CompareError.TheVariants.{OutOfMemory}
use Rattle.bi_describe.specs.declared.compare.signed_lines.Sign.TheVariants.{Removed, Added}
use Rattle.bi_describe.specs.Comparing.{AreTheSame, AreDifferent, IsComparison, IsComparisonOf, IsReadingError, IsDescribingError}
use Rattle.bi_describe.specs.Comparing.{IsComparisonError, comparison, comparison_by_lines, comparison_text, differences_or_reason}
use Rattle.bi_describe.specs.Comparing.{lines_or, lines_to_compare, reason}
use Rattle.bi_describe.specs.Descriptions.{description_lines}
use Rattle.bi_describe.specs.Describing.{CanBeDescribed}
use Rattle.bi_describe.specs.Differences.{SignedLine, differences, sign_text, signed_text, text_of_differences}
use Rattle.bi_norm.proofs.Comparisons.{opened_means}

-- Two files that were read have no differences if they mean the same, and otherwise those of their meanings. An error of reading or
-- describing either is one of comparing them.

-- An error that refuses no file is that memory ran out.
pub memory_of_reading : (limits : Limits) (file : List ℕ) (error : Error) → ((fault : Fault) → error ≢ Refused fault) →
    IsBootImageReadError limits file error → NeedsMemory limits file
memory_of_reading limits file (Refused fault) other is = absurd (other fault refl)
memory_of_reading limits file NoMemory other is = is
memory_of_reading limits file ReadFailed other is = absurd is
memory_of_reading limits file WriteFailed other is = absurd is

abbrev pub are_compared : (limits : Limits) (one other : List ℕ) (image other_image : BootImage) (same : Bool) →
    IsReadBootImage limits one image → IsReadBootImage limits other other_image → IsTrue same ↔ (meaning_of image ≡ meaning_of other_image)
    → AreCompared limits one other same
are_compared limits one other image other_image same opened other_opened is = record {
  meaning = meaning_of image;
  other_meaning = meaning_of other_image;
  means = opened_means limits one image opened;
  other_means = opened_means limits other other_image other_opened;
  is_same = is;
}

-- Memory may run out after the first file was read.
pub memory_error : (limits : Limits) (one other : List ℕ) (image : BootImage) (error : CompareError) → IsReadBootImage limits one image →
    error ≡ OutOfMemory → IsReadingError limits one other error
memory_error limits one other image error opened is =
    subst (IsReadingError limits one other) (sym is)
    (needs_memory limits one (meaning_of image) (opened_means limits one image opened).means)

-- The result of comparing two files that do not mean the same.
false_compared : (limits : Limits) (one other : List ℕ) (image other_image : BootImage) (same : Bool) → IsReadBootImage limits one image →
    IsReadBootImage limits other other_image → IsTrue same ↔ (meaning_of image ≡ meaning_of other_image)
    → same ≡ false → IsTrue false ↔ (meaning_of image ≡ meaning_of other_image)
false_compared limits one other image other_image same opened other_opened is is_false = subst
    (λ b. IsTrue b ↔ (meaning_of image ≡ meaning_of other_image)) is_false is

-- The error of describing one of two files that differ.
pub describing_error : (limits : Limits) (one other : List ℕ) (image other_image : BootImage) (same : Bool) (error : CompareError) →
    IsReadBootImage limits one image → IsReadBootImage limits other other_image → IsTrue same ↔ (meaning_of image ≡ meaning_of other_image)
    → same ≡ false → (error ≡ OutOfMemory) ⊎ IsDescribingError limits (meaning_of image) (meaning_of other_image) error →
    IsComparisonError limits one other error
describing_error limits one other image other_image same error opened other_opened is is_false (inl memory) = inl
    (memory_error limits one other image error opened memory)
describing_error limits one other image other_image same error opened other_opened is is_false (inr describing) =
    inr (record {
      compared = are_compared limits one other image other_image false opened other_opened
          (false_compared limits one other image other_image same opened other_opened is is_false);
      is_error = describing;
    })

pub error_of_one : (limits : Limits) (image other_image : BootImage) (error : CompareError) →
    (error ≡ OutOfMemory) ⊎ ((other : Meaning) → IsDescribingError limits (meaning_of image) other error)
    → (error ≡ OutOfMemory) ⊎ IsDescribingError limits (meaning_of image) (meaning_of other_image) error
error_of_one limits image other_image error (inl memory) = inl memory
error_of_one limits image other_image error (inr describing) = inr (describing (meaning_of other_image))

pub error_of_other : (limits : Limits) (image other_image : BootImage) (error : CompareError)
    → CanBeDescribed Lines limits (meaning_of image)
    → (error ≡ OutOfMemory)
    ⊎ ((one : Meaning) → CanBeDescribed Lines limits one → IsDescribingError limits one (meaning_of other_image) error)
    → (error ≡ OutOfMemory) ⊎ IsDescribingError limits (meaning_of image) (meaning_of other_image) error
error_of_other limits image other_image error described (inl memory) = inl memory
error_of_other limits image other_image error described (inr describing) = inr (describing (meaning_of image) described)

-- What differs between two images of one kind.
pub both_legacy : (image other : BootImage) (parsed other_parsed : LegacyModel) (own others : List Line) → image ≡ Legacy parsed →
    other ≡ Legacy other_parsed →
    differences_or_reason own others ≡ comparison_by_lines (meaning_of image) (meaning_of other) own others
both_legacy image other parsed other_parsed own others is other_is = rw (is, other_is) refl

pub both_fit : (image other : BootImage) (content other_content : FitModel) (own others : List Line) → image ≡ Fit content →
    other ≡ Fit other_content →
    differences_or_reason own others ≡ comparison_by_lines (meaning_of image) (meaning_of other) own others
both_fit image other content other_content own others is other_is = rw (is, other_is) refl

-- The text of lines is not empty.
pub some_text : (line : SignedLine) (later : List SignedLine) → text_of_differences (line ∷ later) ≢ []
some_text line later empty = absurd (omega (
  arith,
  ap length empty,
  length-append (signed_text line) (text_of_differences later),
  length-append (sign_text line.sign) (line.text ++ 10 ∷ []),
  length-append line.text (10 ∷ []),
))

pub some_or : (lines : List SignedLine) (line : SignedLine) → text_of_differences (lines_or lines line) ≢ []
some_or [] line = some_text line []
some_or (first ∷ later) line = some_text first later

-- What differs is not nothing.
pub some_comparison : (one other : Meaning) (own others : List Line) → text_of_differences (comparison_by_lines one other own others) ≢ []
some_comparison (OfLegacy one) (OfFit other) own others =
    some_text (record { sign = Removed; text = codes "kind legacy" }) (record { sign = Added; text = codes "kind fit" } ∷ [])
some_comparison (OfFit one) (OfLegacy other) own others =
    some_text (record { sign = Removed; text = codes "kind fit" }) (record { sign = Added; text = codes "kind legacy" } ∷ [])
some_comparison (OfLegacy one) (OfLegacy other) own others =
    some_or (differences (lines_to_compare own) (lines_to_compare others)) (reason (text_of_lines own) (text_of_lines others))
some_comparison (OfFit one) (OfFit other) own others =
    some_or (differences (lines_to_compare own) (lines_to_compare others)) (reason (text_of_lines own) (text_of_lines others))

-- Two meanings that are the same have no differences.
pub same_compared : (format : Format) (limits : Limits) (one other : Meaning) (text : List ℕ) → text ≡ comparison_text format true [] →
    IsComparisonOf format limits one other true text
same_compared format limits one other text is =
    record { lines = []; differences = AreTheSame refl; empty = (λ empty. refl, λ is_same. refl); is_text = is }

-- The differences of two meanings that are not the same.
pub different_compared : (format : Format) (limits : Limits) (one other : Meaning) (text : List ℕ) (lines : List SignedLine) →
    CanBeDescribed Lines limits one → CanBeDescribed Lines limits other → lines ≡ comparison one other →
    text ≡ comparison_text format false lines → IsComparisonOf format limits one other false text
different_compared format limits one other text lines described other_described is is_text = record {
  lines = lines;
  differences = AreDifferent described other_described is;
  empty = (
    (λ empty. absurd (some_comparison one other (description_lines one) (description_lines other)
        (ap text_of_differences (sym is) ∙ empty))),
    (λ is_same. absurd (true≢false (sym is_same))),
  );
  is_text = is_text;
}

-- What differs between two files that were read.
pub files_compared : (format : Format) (limits : Limits) (one other : List ℕ) (image other_image : BootImage) (same known : Bool)
    (text : List ℕ) → IsReadBootImage limits one image → IsReadBootImage limits other other_image →
    IsTrue same ↔ (meaning_of image ≡ meaning_of other_image) → same ≡ known →
    IsComparisonOf format limits (meaning_of image) (meaning_of other_image) known text → IsComparison format limits one other same text
files_compared format limits one other image other_image same known text opened other_opened is is_known differs = record {
  compared = are_compared limits one other image other_image same opened other_opened is;
  differs = subst (λ b. IsComparisonOf format limits (meaning_of image) (meaning_of other_image) b text) (sym is_known) differs;
}
