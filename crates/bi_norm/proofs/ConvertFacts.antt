use Rattle.std.proofs.Common.{◌≡◌, ◌⊎◌, ◌<◌, ◌≤◌, ℕ, List, length, refl, sym, ap, subst, ◌∙◌, inl, inr, lit<, lit≤, arith}
use Rattle.std.proofs.lemmas.Bool.{eqb-false}
use Rattle.bi_base.specs.Cells.{cell}
use Rattle.bi_base.specs.declared.fault.Error.{Error}
use Rattle.bi_base.specs.declared.fault.Error.TheVariants.{Refused, OutOfMemory, ReadFailed, WriteFailed}
use Rattle.bi_base.specs.declared.fault.Fault.{Fault}
use Rattle.bi_base.specs.Limits.{Limits, widest}
use Rattle.bi_base.specs.Reading.{too_large}
use Rattle.bi_base.proofs.ByteLists.{bytes_by_test}
use Rattle.bi_base.proofs.FirstFault.{not_both, one_fault}
use Rattle.bi_fit.specs.declared.form.Form.TheVariants.{Embedded}
use Rattle.bi_fit.specs.KnownBuilds.{known_text}
use Rattle.bi_fit.specs.Text.{fit_text}
use Rattle.bi_fit.proofs.BuildFacts.{built_is_known}
use Rattle.bi_legacy.specs.File.{header, LegacyMeans}
use Rattle.bi_legacy.specs.KnownFaults.{limited_to}
use Rattle.bi_legacy.specs.Laws.{OneLegacyMeaning}
use Rattle.bi_legacy.specs.Meaning.{LegacyImage}
use Rattle.bi_legacy.specs.Text.{legacy_text, IsLegacyImage}
use Rattle.bi_legacy.proofs.FaultLaws.{one_legacy_fault}
use Rattle.bi_legacy.proofs.LegacyFaultFacts.{legacy_checks_have_order}
use Rattle.bi_legacy.proofs.TextMeans.{legacy_text_means}
use Rattle.bi_norm.specs.Converting.{CanBeConverted, ConvertPasses, convert_checks, convert_fault, fit_of, IsConvertError, IsConvertedFile}
use Rattle.bi_norm.specs.Converting.{IsConvertFault, IsFileConvertFault, NotLegacy, NotConvertible, TextTooLong}
use Rattle.bi_norm.specs.KnownComparisons.{file_without_magic, no_magic}
use Rattle.bi_norm.specs.KnownConvertedFiles.{multi_of_two, multi_of_none, no_part_fault, ConvertedFilesAreKnown, ConvertErrorsAreKnown}
use Rattle.bi_norm.specs.Meaning.{OfLegacy}
use Rattle.bi_norm.proofs.ComparisonFacts.{no_magic_is_error}
use Rattle.bi_norm.proofs.ConvertedImages.{converted_is_accepted}

-- Small legacy images are converted to known files or fail with known errors, and nothing else.

-- ---- the images

pub two_is_image : IsLegacyImage multi_of_two
unfolding cell
two_is_image = record {
  ranges = record {
    time = lit< tt;
    load = lit< tt;
    entry = lit< tt;
    os = lit< tt;
    arch = lit< tt;
    image_type = lit< tt;
    compression = lit< tt;
  };
  name = record { short = lit≤ tt; no_zero = (eqb-false _ _ refl, tt) };
  name_bytes = bytes_by_test _ refl;
  parts = (lit< tt, (lit< tt, tt));
  parts_bytes = (bytes_by_test _ refl, (bytes_by_test _ refl, tt));
  size = lit< tt;
}

none_is_image : IsLegacyImage multi_of_none
unfolding cell
none_is_image = record {
  ranges = record {
    time = lit< tt;
    load = lit< tt;
    entry = lit< tt;
    os = lit< tt;
    arch = lit< tt;
    image_type = lit< tt;
    compression = lit< tt;
  };
  name = record { short = lit≤ tt; no_zero = (eqb-false _ _ refl, tt) };
  name_bytes = bytes_by_test _ refl;
  parts = tt;
  parts_bytes = tt;
  size = lit< tt;
}

two_length : length (legacy_text multi_of_two) ≡ 87
unfolding legacy_text header cell
two_length = refl

none_length : length (legacy_text multi_of_none) ≡ 68
unfolding legacy_text header cell
none_length = refl

two_means : (limit : ℕ) → 87 ≤ limit → LegacyMeans (limited_to limit) (legacy_text multi_of_two) multi_of_two
two_means limit within =
    record { is_file = legacy_text_means multi_of_two two_is_image; short = omega (arith, two_length, within) }

none_means : LegacyMeans widest (legacy_text multi_of_none) multi_of_none
none_means = record { is_file = legacy_text_means multi_of_none none_is_image; short = omega (arith, none_length) }

-- ---- what can be converted

two_can : CanBeConverted multi_of_two
two_can = (refl, (refl, (refl, (refl, ((λ same. omega (arith, ap length same)), (lit≤ tt, tt))))))

none_is_fault : IsConvertFault multi_of_none no_part_fault
none_is_fault = inr (refl, inr (refl, inr (refl, inr (refl, inl ((λ other. other refl), refl)))))

none_cannot : ¬ (CanBeConverted multi_of_none)
none_cannot can = not_both (ConvertPasses multi_of_none) convert_fault convert_checks no_part_fault can none_is_fault

known_length : length (fit_text Embedded (fit_of multi_of_two)) ≡ 824
known_length = built_is_known.is_length

module _ (one_legacy : OneLegacyMeaning) where
  -- Each image that such a file means is its image.
  is_two : (limits : Limits) (image : LegacyImage) → LegacyMeans limits (legacy_text multi_of_two) image → image ≡ multi_of_two
  is_two limits image means =
      one_legacy (legacy_text multi_of_two) image multi_of_two means.is_file (legacy_text_means multi_of_two two_is_image)

  is_none : (limits : Limits) (image : LegacyImage) → LegacyMeans limits (legacy_text multi_of_none) image → image ≡ multi_of_none
  is_none limits image means =
      one_legacy (legacy_text multi_of_none) image multi_of_none means.is_file (legacy_text_means multi_of_none none_is_image)

  none_cannot_be : (image : LegacyImage) → LegacyMeans widest (legacy_text multi_of_none) image → ¬ (CanBeConverted image)
  none_cannot_be image means can = none_cannot (subst CanBeConverted (is_none widest image means) can)

  two_is_converted : (text : List ℕ) → text ≡ known_text → IsConvertedFile widest (legacy_text multi_of_two) text
  two_is_converted text same = record {
    image = multi_of_two;
    means = two_means widest.file (omega arith);
    only = is_two widest;
    can = two_can;
    is_text = same;
    converted = λ bounds file_limit deep.
        converted_is_accepted bounds Embedded multi_of_two two_is_image two_can deep (omega (arith, known_length, file_limit))
        (omega (arith, file_limit));
  }

  pub converted_files_are_known : ConvertedFilesAreKnown
  converted_files_are_known = record {
    two = λ text. (
      λ is. is.is_text ∙ ap (λ (image : LegacyImage). fit_text Embedded (fit_of image)) (is_two widest is.image is.means),
      two_is_converted text,
    );
    is_length = built_is_known.is_length;
    can = record { image = multi_of_two; means = two_means widest.file (omega arith); can = two_can };
    none = λ text is. none_cannot_be is.image is.means is.can;
    cannot = λ is. none_cannot_be is.image is.means is.can;
  }

  -- ---- errors

  no_magic_error : (error : Error) → IsConvertError widest file_without_magic error → error ≡ Refused no_magic
  no_magic_error (Refused fault) is = elim is [
    | NotLegacy fault_is none ↦
        ap Refused (one_legacy_fault file_without_magic widest fault no_magic fault_is legacy_checks_have_order.magic_before_length)
    | NotConvertible image means fault_is ↦ absurd (no_magic_is_error.1 (OfLegacy image) means)
    | TextTooLong image means can long same ↦ absurd (no_magic_is_error.1 (OfLegacy image) means)
  ]
  no_magic_error OutOfMemory is = absurd (no_magic_is_error.1 (OfLegacy is.image) is.means)
  no_magic_error ReadFailed is = absurd is
  no_magic_error WriteFailed is = absurd is

  none_error : (error : Error) → IsConvertError widest (legacy_text multi_of_none) error → error ≡ Refused no_part_fault
  none_error (Refused fault) is = elim is [
    | NotLegacy fault_is none ↦ absurd (none multi_of_none none_means)
    | NotConvertible image means fault_is ↦
        ap Refused (one_fault (ConvertPasses multi_of_none) convert_fault convert_checks fault no_part_fault
        (subst (λ (image : LegacyImage). IsConvertFault image fault) (is_none widest image means) fault_is) none_is_fault)
    | TextTooLong image means can long same ↦ absurd (none_cannot_be image means can)
  ]
  none_error OutOfMemory is = absurd (none_cannot_be is.image is.means is.can)
  none_error ReadFailed is = absurd is
  none_error WriteFailed is = absurd is

  -- The fault of the first image is that its text is too long.
  two_fault : (limit : ℕ) → 87 ≤ limit → (fault : Fault) → IsFileConvertFault (limited_to limit) (legacy_text multi_of_two) fault →
      (limit < 824) × (fault ≡ too_large limit)
  two_fault limit within fault is = elim is [
    | NotLegacy fault_is none ↦ absurd (none multi_of_two (two_means limit within))
    | NotConvertible image means fault_is ↦ absurd
        (not_both (ConvertPasses multi_of_two) convert_fault convert_checks fault two_can
        (subst (λ (image : LegacyImage). IsConvertFault image fault) (is_two (limited_to limit) image means) fault_is))
    | TextTooLong image means can long same ↦ (
      omega (
        arith,
        long,
        ap (λ (image : LegacyImage). length (fit_text Embedded (fit_of image))) (is_two (limited_to limit) image means),
        known_length,
      ),
      same,
    )
  ]

  too_long_error : (error : Error) → IsConvertError (limited_to 823) (legacy_text multi_of_two) error →
      (error ≡ Refused (too_large 823)) ⊎ (error ≡ OutOfMemory)
  too_long_error (Refused fault) is = inl (ap Refused (two_fault 823 (omega arith) fault is).1)
  too_long_error OutOfMemory is = inr refl
  too_long_error ReadFailed is = absurd is
  too_long_error WriteFailed is = absurd is

  within_error : (error : Error) → IsConvertError (limited_to 824) (legacy_text multi_of_two) error → error ≡ OutOfMemory
  within_error (Refused fault) is = absurd (omega (arith, (two_fault 824 (omega arith) fault is).0))
  within_error OutOfMemory is = refl
  within_error ReadFailed is = absurd is
  within_error WriteFailed is = absurd is

  -- An error that is this one is one of converting.
  abbrev is_this : (limits : Limits) (file : List ℕ) (one : Error) → IsConvertError limits file one → (error : Error) → error ≡ one →
      IsConvertError limits file error
  is_this limits file one is error same = subst (IsConvertError limits file) (sym same) is

  two_needs_memory : (limit : ℕ) → 87 ≤ limit → IsConvertError (limited_to limit) (legacy_text multi_of_two) OutOfMemory
  two_needs_memory limit within = record { image = multi_of_two; means = two_means limit within; can = two_can }

  pub convert_errors_are_known : ConvertErrorsAreKnown
  convert_errors_are_known = record {
    no_magic = λ error. (
      no_magic_error error,
      is_this widest file_without_magic (Refused no_magic)
          (NotLegacy legacy_checks_have_order.magic_before_length (λ image means. no_magic_is_error.1 (OfLegacy image) means)) error,
    );
    no_parts = λ error. (
      none_error error,
      is_this widest (legacy_text multi_of_none) (Refused no_part_fault) (NotConvertible multi_of_none none_means none_is_fault) error,
    );
    too_long = λ error. (
      too_long_error error,
      λ is. elim is [
        | inl same ↦ is_this (limited_to 823) (legacy_text multi_of_two) (Refused (too_large 823))
            (TextTooLong multi_of_two (two_means 823 (omega arith)) two_can (omega (arith, known_length)) refl) error same
        | inr same ↦ is_this (limited_to 823) (legacy_text multi_of_two) OutOfMemory (two_needs_memory 823 (omega arith)) error same
      ],
    );
    within = λ error. (
      within_error error,
      is_this (limited_to 824) (legacy_text multi_of_two) OutOfMemory (two_needs_memory 824 (omega arith)) error,
    );
  }
