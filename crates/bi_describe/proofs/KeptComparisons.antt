use Rattle.std.proofs.Common.{◌≡◌, ◌↔◌, ◌⊎◌, ◌∙◌, ◌++◌, Bool, true, false, IsTrue, ℕ, List, [], ◌∷◌, codes, inl, inr, Option, None, Some}
use Rattle.std.proofs.Common.{refl, sym, ap, subst, true≢false}
use Rattle.std.proofs.lemmas.Grind.{flat_map-append}
use Rattle.bi_base.specs.Limits.{Limits}
use Rattle.bi_legacy.specs.Meaning.{LegacyImage}
use Rattle.bi_norm.specs.Meaning.{Meaning, OfLegacy, OfFit}
use Rattle.bi_norm.specs.declared.image.BootImage.{BootImage}
use Rattle.bi_norm.specs.Reading.{IsReadBootImage, meaning_of}
use Rattle.bi_norm.proofs.Comparisons.{opened_means}
use Rattle.bi_common.specs.declared.format.Format.{Format}
use Rattle.bi_common.specs.declared.format.Format.TheVariants.{Lines}
use Rattle.bi_common.specs.CommonLines.{header_code_lines}
use Rattle.bi_common.specs.LineTokens.{LineToken, line_tokens, tokens_of_lines}
use Rattle.bi_common.specs.Lines.{Line, Text, Name, Hexadecimal}
use Rattle.bi_describe.specs.declared.compare.CompareError.{CompareError}
use Rattle.bi_describe.specs.declared.compare.CompareError.TheVariants.{OutOfMemory}
use Rattle.bi_describe.specs.declared.describe.kept.KeptImage.{KeptImage}
use Rattle.bi_describe.specs.declared.describe.kept.KeptImage.TheVariants.{Legacy, Fit}
use Rattle.bi_describe.specs.declared.describe.kept.legacy.KeptLegacy.{KeptLegacy}
use Rattle.bi_describe.specs.declared.describe.kept.tree.KeptFit.{KeptFit}
use Rattle.bi_describe.specs.Comparing.{IsDescribingError, IsReadingError, comparison_by_lines, comparison_text, differences_or_reason}
use Rattle.bi_describe.specs.ComparingWithout.{AreComparedWithout, AreMeanings, IgnoringOptionsModel, IsComparisonWithout, IsIgnoringError}
use Rattle.bi_describe.specs.ComparingWithout.{lines_without, text_without}
use Rattle.bi_describe.specs.Describing.{CanBeDescribed}
use Rattle.bi_describe.specs.Differences.{text_of_differences}
use Rattle.bi_describe.specs.Ignoring.{Ignored}
use Rattle.bi_describe.specs.KeptImages.{IsKeptImage}
use Rattle.bi_describe.specs.ReducedMeanings.{AreSameWithout, meaning_without, reduced_header_lines, reduced_lines, time_lines}
use Rattle.bi_describe.proofs.ComparedImages.{memory_error, some_comparison}

-- Two files that were read are compared without what is left out of both.

-- What differs between two images of the same kind.
abbrev lines_apart : (own others : List Line) → (one other : Meaning) → Type 0
lines_apart own others one other = differences_or_reason own others ≡ comparison_by_lines one other own others

legacy_apart : (words : List Ignored) (one other : Meaning) (a b : KeptLegacy) (own others : List Line) →
    IsKeptImage (meaning_without words one) (Legacy a) → IsKeptImage (meaning_without words other) (Legacy b) →
    lines_apart own others one other
legacy_apart words (OfLegacy one) (OfLegacy other) a b own others is also = refl
legacy_apart words (OfLegacy one) (OfFit other) a b own others is also = absurd also
legacy_apart words (OfFit one) other a b own others is also = absurd is

fits_apart : (words : List Ignored) (one other : Meaning) (a b : KeptFit) (own others : List Line) →
    IsKeptImage (meaning_without words one) (Fit a) → IsKeptImage (meaning_without words other) (Fit b) →
    lines_apart own others one other
fits_apart words (OfFit one) (OfFit other) a b own others is also = refl
fits_apart words (OfFit one) (OfLegacy other) a b own others is also = absurd also
fits_apart words (OfLegacy one) other a b own others is also = absurd is

pub two_legacy_stay : (words : List Ignored) (one other : Meaning) (image other_image : KeptImage) (a b : KeptLegacy)
    (own others : List Line) → image ≡ Legacy a → other_image ≡ Legacy b → IsKeptImage (meaning_without words one) image →
    IsKeptImage (meaning_without words other) other_image → lines_apart own others one other
two_legacy_stay words one other image other_image a b own others is also kept other_kept =
    legacy_apart words one other a b own others (subst (IsKeptImage (meaning_without words one)) is kept)
    (subst (IsKeptImage (meaning_without words other)) also other_kept)

pub two_fits_stay : (words : List Ignored) (one other : Meaning) (image other_image : KeptImage) (a b : KeptFit)
    (own others : List Line) → image ≡ Fit a → other_image ≡ Fit b → IsKeptImage (meaning_without words one) image →
    IsKeptImage (meaning_without words other) other_image → lines_apart own others one other
two_fits_stay words one other image other_image a b own others is also kept other_kept =
    fits_apart words one other a b own others (subst (IsKeptImage (meaning_without words one)) is kept)
    (subst (IsKeptImage (meaning_without words other)) also other_kept)

-- There are differences if and only if meanings are not the same.
none_if_same : (words : List Ignored) (one other : Meaning) (same : Bool) →
    (text_of_differences (lines_without words one other same) ≡ []) ↔ IsTrue same
none_if_same words one other true = (λ empty. refl, λ is. refl)
none_if_same words one other false = (
  (λ empty. absurd (some_comparison one other (reduced_lines (meaning_without words one)) (reduced_lines (meaning_without words other))
      empty)),
  (λ is. absurd (true≢false (sym is))),
)

-- The result of comparing what stays.
pub compared_without : (options : IgnoringOptionsModel) (one other : Meaning) (same : Bool) (text : List ℕ) →
    IsTrue same ↔ AreSameWithout options.words one other →
    text ≡ text_without options same (lines_without options.words one other same) → IsComparisonWithout options one other same text
compared_without options one other same text is is_text = record {
  is_same = is;
  lines = lines_without options.words one other same;
  are_lines = refl;
  empty = none_if_same options.words one other same;
  is_text = is_text;
}

-- What two files mean that were read.
abbrev pub meanings_of : (limits : Limits) (one other : List ℕ) (image other_image : BootImage) → IsReadBootImage limits one image →
    IsReadBootImage limits other other_image → AreMeanings limits one other
meanings_of limits one other image other_image opened other_opened = record {
  meaning = meaning_of image;
  other_meaning = meaning_of other_image;
  means = opened_means limits one image opened;
  other_means = opened_means limits other other_image other_opened;
}

pub files_without : (options : IgnoringOptionsModel) (limits : Limits) (one other : List ℕ) (image other_image : BootImage)
    (same : Bool) (text : List ℕ) → IsReadBootImage limits one image → IsReadBootImage limits other other_image →
    CanBeDescribed Lines limits (meaning_of image) → CanBeDescribed Lines limits (meaning_of other_image) →
    IsComparisonWithout options (meaning_of image) (meaning_of other_image) same text →
    AreComparedWithout options limits one other same text
files_without options limits one other image other_image same text opened other_opened described other_described differs = record {
  are = meanings_of limits one other image other_image opened other_opened;
  described = described;
  other_described = other_described;
  differs = differs;
}

-- The error of describing two files that were read.
pub ignoring_error : (limits : Limits) (one other : List ℕ) (image other_image : BootImage) (error : CompareError) →
    IsReadBootImage limits one image → IsReadBootImage limits other other_image →
    (error ≡ OutOfMemory) ⊎ IsDescribingError limits (meaning_of image) (meaning_of other_image) error →
    IsIgnoringError limits one other error
ignoring_error limits one other image other_image error opened other_opened (inl memory) =
    inl (memory_error limits one other image error opened memory)
ignoring_error limits one other image other_image error opened other_opened (inr describing) =
    inr (record { are = meanings_of limits one other image other_image opened other_opened; is_error = describing })

-- ---- headers

-- The lines of a header are put in four parts.
abbrev first_lines : LegacyImage → List Line
first_lines image = (Text (codes "kind") ∷ Text (codes "legacy") ∷ []) ∷ (Text (codes "name") ∷ Name image.name ∷ []) ∷ []

abbrev number_lines : LegacyImage → List Line
number_lines image = (Text (codes "load") ∷ Hexadecimal image.load ∷ []) ∷ (Text (codes "entry") ∷ Hexadecimal image.entry ∷ []) ∷ []

pub header_in_parts : (image : LegacyImage) (time : Option ℕ) → tokens_of_lines (reduced_header_lines image time)
    ≡ tokens_of_lines (first_lines image)
    ++ (tokens_of_lines (time_lines time) ++ (tokens_of_lines (number_lines image) ++ tokens_of_lines (header_code_lines image)))
header_in_parts image time =
    let later : List Line = number_lines image ++ header_code_lines image in
    flat_map-append line_tokens (first_lines image) (time_lines time ++ later)
    ∙ ap (λ (tokens : List LineToken). tokens_of_lines (first_lines image) ++ tokens)
    (flat_map-append line_tokens (time_lines time) later
    ∙ ap (λ (tokens : List LineToken). tokens_of_lines (time_lines time) ++ tokens)
    (flat_map-append line_tokens (number_lines image) (header_code_lines image)))
