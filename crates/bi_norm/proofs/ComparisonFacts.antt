use Rattle.std.proofs.Common.{◌≡◌, ◌∙◌, ℕ, List, inl, inr, lit≤, refl, sym, ap, subst, arith, rules}
use Rattle.bi_base.specs.Cells.{cell, u32_at}
use Rattle.bi_base.specs.declared.fault.Fault.{Fault}
use Rattle.bi_base.specs.declared.fault.Error.TheVariants.{Refused}
use Rattle.bi_base.specs.Limits.{widest}
use Rattle.bi_blob.proofs.HeaderFacts.{headers_have_faults}
use Rattle.bi_fit.specs.Faults.{InBlob}
use Rattle.bi_legacy.specs.File.{header, LegacyMeans}
use Rattle.bi_legacy.specs.KnownFaults.{file_of_data}
use Rattle.bi_legacy.specs.KnownFiles.{kernel_file_with_rest, multi_data_with_rest}
use Rattle.bi_legacy.specs.KnownImages.{kernel_file, kernel_image, multi_file, multi_image}
use Rattle.bi_legacy.specs.Laws.{OneLegacyMeaning}
use Rattle.bi_legacy.specs.Meaning.{LegacyImage}
use Rattle.bi_legacy.proofs.FileFacts.{free_bytes_have_no_meaning}
use Rattle.bi_legacy.proofs.KnownImages.{kernel_text, multi_text}
use Rattle.bi_legacy.proofs.NormalForms.{has_normal_form}
use Rattle.bi_norm.specs.Comparing.{MeansOnly}
use Rattle.bi_norm.specs.Faults.{IsFileFault, OfTree}
use Rattle.bi_norm.specs.KnownComparisons.{ComparedFilesAreKnown, CompareErrorsAreKnown}
use Rattle.bi_norm.specs.KnownComparisons.{file_without_magic, no_magic, file_that_ends_early, ends_early}
use Rattle.bi_norm.specs.Meaning.{Meaning, OfLegacy}
use Rattle.bi_norm.specs.Reading.{IsBootImageReadError}
use Rattle.bi_norm.proofs.KindLaws.{file_has_no_fault, one_file_fault, one_file_meaning}

-- Small files are compared, or have the error of the first that has one.

-- ---- what they mean

pub kernel_with_rest_means : LegacyMeans widest kernel_file_with_rest kernel_image
unfolding header cell
kernel_with_rest_means = record { is_file = free_bytes_have_no_meaning.kernel; short = lit≤ tt }

pub multi_with_rest_means : LegacyMeans widest (file_of_data 4 multi_data_with_rest) multi_image
unfolding header cell
multi_with_rest_means = record { is_file = free_bytes_have_no_meaning.multi; short = lit≤ tt }

pub kernel_means : LegacyMeans widest kernel_file kernel_image
kernel_means =
    subst (λ (file : List ℕ). LegacyMeans widest file kernel_image) kernel_text
    (has_normal_form kernel_file_with_rest kernel_image widest kernel_with_rest_means).text_means_image

pub multi_means : LegacyMeans widest multi_file multi_image
multi_means =
    subst (λ (file : List ℕ). LegacyMeans widest file multi_image) multi_text
    (has_normal_form (file_of_data 4 multi_data_with_rest) multi_image widest multi_with_rest_means).text_means_image

-- ---- comparing

-- The type of what a file means, if that is a legacy image.
abbrev type_of : Meaning → ℕ
type_of (OfLegacy image) = image.image_type
type_of other = 0

module _ (one_legacy : OneLegacyMeaning) where
  pub only_image : (file : List ℕ) (image : LegacyImage) → LegacyMeans widest file image → MeansOnly widest file (OfLegacy image)
  only_image file image means = search (rules, one_file_meaning)

  pub compared_files_are_known : ComparedFilesAreKnown
  compared_files_are_known = record {
    same = record {
      are_compared = record {
        meaning = OfLegacy kernel_image;
        other_meaning = OfLegacy kernel_image;
        means = only_image kernel_file_with_rest kernel_image kernel_with_rest_means;
        other_means = only_image kernel_file kernel_image kernel_means;
        is_same = (λ holds. refl, λ same. refl);
      };
      no_other = λ compared.
          let one = compared.means.only (OfLegacy kernel_image) kernel_with_rest_means in
          let other = compared.other_means.only (OfLegacy kernel_image) kernel_means in
          let bad = compared.is_same.1 (sym one ∙ other) in
          cc;
    };
    other_image = record {
      are_compared = record {
        meaning = OfLegacy kernel_image;
        other_meaning = OfLegacy multi_image;
        means = only_image kernel_file kernel_image kernel_means;
        other_means = only_image multi_file multi_image multi_means;
        is_same = (λ holds. cc, λ same. absurd (omega (arith, ap type_of same)));
      };
      no_other = λ compared.
          let one = compared.means.only (OfLegacy kernel_image) kernel_means in
          let other = compared.other_means.only (OfLegacy multi_image) multi_means in
          omega (arith, ap type_of (one ∙ compared.is_same.0 refl ∙ sym other));
    };
  }

-- ---- errors

no_magic_is_fault : IsFileFault widest file_without_magic no_magic
unfolding u32_at
no_magic_is_fault = OfTree (λ begins. omega (arith, begins.magic)) (InBlob headers_have_faults.other_magic)

ends_early_is_fault : IsFileFault widest file_that_ends_early ends_early
unfolding u32_at cell
ends_early_is_fault = OfTree (λ begins. omega (arith, begins.magic)) (InBlob headers_have_faults.total_past_end)

-- A file with a fault means nothing, so the fault is an error of reading it.
is_error : (file : List ℕ) (fault : Fault) → IsFileFault widest file fault → IsBootImageReadError widest file (Refused fault)
is_error file fault is = (is, λ meaning means. file_has_no_fault widest file meaning fault means is)

pub no_magic_is_error : IsBootImageReadError widest file_without_magic (Refused no_magic)
no_magic_is_error = is_error file_without_magic no_magic no_magic_is_fault

pub ends_early_is_error : IsBootImageReadError widest file_that_ends_early (Refused ends_early)
ends_early_is_error = is_error file_that_ends_early ends_early ends_early_is_fault

-- The faults differ.
different_faults : ¬ (no_magic ≡ ends_early)
different_faults same = omega (arith, ap (λ (fault : Fault). fault.offset) same)

pub compare_errors_are_known : CompareErrorsAreKnown
compare_errors_are_known = record {
  only_first = inl no_magic_is_error;
  only_second = inr (record { meaning = OfLegacy kernel_image; means = kernel_means; has_error = no_magic_is_error });
  first_of_both = inl no_magic_is_error;
  not_second_of_both = λ is. elim is [
    | inl first ↦ different_faults (one_file_fault widest file_without_magic no_magic ends_early no_magic_is_fault first.0)
    | inr second ↦ no_magic_is_error.1 second.meaning second.means
  ];
  first_of_exchanged = inl ends_early_is_error;
  not_second_of_exchanged = λ is. elim is [
    | inl first ↦ different_faults (one_file_fault widest file_that_ends_early no_magic ends_early first.0 ends_early_is_fault)
    | inr second ↦ ends_early_is_error.1 second.meaning second.means
  ];
  neither = λ fault is. elim is [
    | inl first ↦ first.1 (OfLegacy kernel_image) kernel_means
    | inr second ↦ second.has_error.1 (OfLegacy multi_image) multi_means
  ];
}
